use Rattle.std.proofs.Common.{◌≡◌, ◌<◌, ℕ, ℤ, not, List, length, sym, ◌∙◌, ap, subst, arith}
use Rattle.std.specs.Prelude.{Option, Some, None}
use Rattle.dasp_session.specs.declared.place.Place.{Place}
use Rattle.dasp_session.specs.Session.{Session}
use Rattle.dasp_session.specs.Standing.{Leaves}
use Rattle.std.proofs.Common.{◌+◌, [], ◌∷◌, cond, eqb, ne_eqb, to_z, of_z, w64, rules}
use Rattle.std.specs.Prelude.{position}
use Rattle.std.proofs.lemmas.Bool.{cond-false}
use Rattle.std.proofs.lemmas.Iterator.Adapters.{position_from-zero}
use Rattle.std.proofs.lemmas.List.Quantifiers.{position-Some}
use Rattle.sed_outside.specs.declared.addr.Addr.{Addr}
use Rattle.dasp_session.specs.Digest.{nonce_of}
use Rattle.dasp_msg.specs.Shown.{Message}
use Rattle.dasp_session.specs.declared.sessions.Sessions.{Sessions}
use Rattle.dasp_session.specs.Closing.{too_many}
use Rattle.dasp_session.specs.Keeping.{Like, begun}
use Rattle.dasp_session.specs.Letters.{close}
use Rattle.dasp_session.specs.Looking.{free_from}
use Rattle.dasp_session.specs.Outbox.{Datagram, Sends}
use Rattle.dasp_session.specs.Receive.{Outcome, answers, made_at, id_of, new_session, challenge_of}
use Rattle.dasp_session.specs.Session.{State}
use Rattle.dasp_session.specs.Standing.{StandsFor}
use Rattle.dasp_session.proofs.PlaceLemmas.{free-agree, set_at}
use Rattle.dasp_session.proofs.StandLemmas.{leaves-eq}
use Rattle.dasp_session.proofs.sessions.Sessions.make.Goals as goal

-- some number is left
left : (self : Sessions) (state : State) (from : Addr) (remote_id : ℕ) (new : Sessions) (before after : List Datagram) → StandsFor self state → (self.made ≡ 4294967295 → ⊥)
    → Leaves (made_at state from remote_id (free_from 0 state.sessions)) new before after
    → Leaves (cond (eqb state.made 4294967295) (answers state from (close remote_id (Some too_many))) (made_at state from remote_id (free_from 0 state.sessions))) new before after
left self state from remote_id new before after stands some leaves =
    subst (λ (outcome : Outcome). Leaves outcome new before after)
    (sym (cond-false (eqb state.made 4294967295) _ _ (ne_eqb state.made 4294967295 (λ e. some (stands.made ∙ e))))) leaves

-- the least free place
free : (self : Sessions) (state : State) (given : List Place) (found : Option ℕ) → StandsFor self state → given ≡ self.places.items
    → found ≡ position (λ place. not place.live) given → free_from 0 state.sessions ≡ found
free self state given found stands same is =
    sym (free-agree 0 self.places.items state.sessions stands.places)
    ∙ sym (position_from-zero (λ (place : Place). not place.live) self.places.items)
    ∙ ap (λ (places : List Place). position (λ (place : Place). not place.live) places) (sym same) ∙ sym is

-- a session that begins is the new one
begun-new : (state : State) (from : Addr) (remote_id place id : ℕ) (nonce : List ℕ) (moment : ℤ) → id ≡ id_of state.made place → nonce ≡ nonce_of state.secret state.made → moment ≡ state.moment
    → begun (record { id = id; address = from; remote_id = remote_id; nonce = nonce; moment = moment }) ≡ new_session state from remote_id place
begun-new state from remote_id place id nonce moment e f g =
    ap (λ (n : ℕ). begun (record { id = n; address = from; remote_id = remote_id; nonce = nonce; moment = moment })) e
    ∙ ap (λ (n : List ℕ). begun (record { id = id_of state.made place; address = from; remote_id = remote_id; nonce = n; moment = moment })) f
    ∙ ap (λ (n : ℤ). begun (record { id = id_of state.made place; address = from; remote_id = remote_id; nonce = nonce_of state.secret state.made; moment = n })) g

pub returns-in-Some-clause-leaves : goal.returns-in-Some-clause-leaves
returns-in-Some-clause-leaves c = λ state stands.
    let place : ℕ = c.in-Some.place in
    let found : free_from 0 state.sessions ≡ Some place = free c.args.self.now state _ _ stands c.deref.ensures.value c.free_place.ensures ∙ c.in-Some.is in
    let id : c.id_of.result ≡ id_of state.made place = c.id_of.ensures ∙ ap (λ (made : ℕ). id_of made place) stands.made in
    let nonce : c.nonce.result ≡ nonce_of state.secret state.made =
    c.nonce.ensures ∙ ap (λ (secret : List ℕ). nonce_of secret c.args.self.now.made) stands.secret ∙ ap (nonce_of state.secret) stands.made in
    let same = begun-new state c.args.from c.args.remote_id place c.id_of.result c.nonce.result c.args.self.now.moment id nonce stands.moment in
    let moment : to_z w64 (of_z w64 c.args.self.now.moment) ≡ c.args.self.now.moment = search rules in
    let within = (position-Some (λ (kept : Place). not kept.live) c.deref.result.now place c.index_mut.result.now (sym c.free_place.ensures ∙ c.in-Some.is)).0 in
    let few : place < 16 = omega (arith, ap (length {A = Place}) c.deref.ensures.value, c.args.self.now.sixteen) in
    left c.args.self.now state c.args.from c.args.remote_id _ _ _ stands c.if-self.false
    (leaves-eq _ _ _ c.args.out.now c.send-in-Some.new.self (ap (made_at state c.args.from c.args.remote_id) found)
    (record {
      state = record {
        users = stands.users;
        secret = stands.secret;
        made = ap (λ (n : ℕ). n + 1) stands.made;
        moment = stands.moment;
        places =
            set_at 0 c.args.self.now.places.items state.sessions stands.places place c.begin.new.self (Some (new_session state c.args.from c.args.remote_id place))
            (c.begin.ensures.live, subst (λ (s : Session). Like c.begin.new.self s) same (subst (λ (t : ℤ). Like c.begin.new.self (begun (record { id = c.id_of.result; address = c.args.from; remote_id = c.args.remote_id; nonce = c.nonce.result; moment = t }))) moment c.begin.ensures.like)) (omega arith);
      };
      sent =
          subst (λ (s : Session). Sends (record { to = c.args.from; message = challenge_of s } ∷ []) c.args.out.now c.send-in-Some.new.self) same
          (subst (λ (m : Message). Sends (record { to = c.args.from; message = m } ∷ []) c.args.out.now c.send-in-Some.new.self) c.challenge.ensures.says c.send-in-Some.ensures.sends);
    }))

pub returns-in-None-clause-leaves : goal.returns-in-None-clause-leaves
returns-in-None-clause-leaves c = λ state stands.
    let found : free_from 0 state.sessions ≡ None = free c.args.self.now state _ _ stands c.deref.ensures.value c.free_place.ensures ∙ c.in-None.is in
    left c.args.self.now state c.args.from c.args.remote_id _ _ _ stands c.if-self.false
    (subst (λ (slot : Option ℕ). Leaves (made_at state c.args.from c.args.remote_id slot) c.args.self.now c.args.out.now c.send-in-None.new.self) (sym found)
    (record {
      state = stands;
      sent = subst (λ (m : Message). Sends (record { to = c.args.from; message = m } ∷ []) c.args.out.now c.send-in-None.new.self) c.close-in-None.ensures.says c.send-in-None.ensures.sends;
    }))
