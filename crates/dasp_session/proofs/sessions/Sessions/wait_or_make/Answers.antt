use Rattle.std.proofs.Common.{◌≡◌, ℕ, List, get_or, sym, ◌∙◌, ap, subst, arith}
use Rattle.std.specs.Prelude.{Option}
use Rattle.dasp_session.specs.declared.place.Place.{Place}
use Rattle.dasp_session.specs.Session.{Session}
use Rattle.dasp_session.specs.Standing.{Leaves}
use Rattle.std.proofs.Common.{◌-◌, ◌∷◌, []}
use Rattle.std.specs.Prelude.{position}
use Rattle.std.specs.List.{position_from}
use Rattle.std.proofs.lemmas.Iterator.Adapters.{position_from-zero}
use Rattle.sed_outside.specs.declared.addr.Addr.{Addr}
use Rattle.dasp_msg.specs.Shown.{Message}
use Rattle.dasp_session.specs.declared.sessions.Sessions.{Sessions}
use Rattle.dasp_session.specs.Keeping.{Like, waits_here}
use Rattle.dasp_session.specs.Looking.{Found, found_from, is_waiting_for}
use Rattle.dasp_session.specs.Outbox.{Sends}
use Rattle.dasp_session.specs.Receive.{challenged, challenge_of}
use Rattle.dasp_session.specs.Session.{State}
use Rattle.dasp_session.specs.Standing.{StandsFor}
use Rattle.dasp_session.proofs.PlaceLemmas.{Agree, waits-agree, Waits, agree-some, agree-none}
use Rattle.dasp_session.proofs.StandLemmas.{leaves-eq}
use Rattle.dasp_session.proofs.sessions.Sessions.wait_or_make.Goals as goal

waits : (self : Sessions) (state : State) (from : Addr) (remote_id : ℕ) (given : List Place) (answer found : Option ℕ) → StandsFor self state → given ≡ self.places.items
    → answer ≡ position (waits_here from remote_id) given → answer ≡ found → Agree 0 self.places.items found (found_from (is_waiting_for from remote_id) 0 state.sessions)
waits self state from remote_id given answer found stands same is gives =
    let e : position_from (waits_here from remote_id) 0 self.places.items ≡ found =
    sym (position_from-zero (waits_here from remote_id) self.places.items)
    ∙ ap (λ (places : List Place). position (waits_here from remote_id) places) (sym same) ∙ sym is ∙ gives in
    subst (λ (slot : Option ℕ). Agree 0 self.places.items slot (found_from (is_waiting_for from remote_id) 0 state.sessions)) e
    (waits-agree from remote_id 0 self.places.items state.sessions stands.places)

pub returns-in-Some-clause-leaves : goal.returns-in-Some-clause-leaves
returns-in-Some-clause-leaves c = λ state stands.
    let it : Waits 0 c.args.self.now.places.items c.in-Some.place (found_from (is_waiting_for c.args.from c.args.remote_id) 0 state.sessions) =
    agree-some 0 c.args.self.now.places.items c.in-Some.place _ (waits c.args.self.now state c.args.from c.args.remote_id _ _ _ stands c.deref.ensures.value c.waiting_place.ensures c.in-Some.is) in
    let at : c.in-Some.place - 0 ≡ c.in-Some.place = omega arith in
    let like : Like c.index-kept.result.now it.it.session =
    subst (λ (place : Place). Like place it.it.session) (sym c.index-kept.ensures)
    (subst (λ (n : ℕ). Like (get_or c.args.self.now.places.items n c.index-kept.result.now) it.it.session) at (it.like c.index-kept.result.now)) in
    subst (λ (found : Option Found). Leaves (challenged state c.args.from c.args.remote_id found) c.args.self.now c.args.out.now c.send.new.self) (sym it.is)
    (record {
      state = stands;
      sent =
          subst (λ (s : Session). Sends (record { to = c.args.from; message = challenge_of s } ∷ []) c.args.out.now c.send.new.self) (sym like.same)
          (subst (λ (m : Message). Sends (record { to = c.args.from; message = m } ∷ []) c.args.out.now c.send.new.self) c.challenge.ensures.says c.send.ensures.sends);
    })

pub returns-in-None-clause-leaves : goal.returns-in-None-clause-leaves
returns-in-None-clause-leaves c = λ state stands.
    let none = agree-none 0 c.args.self.now.places.items _ (waits c.args.self.now state c.args.from c.args.remote_id _ _ _ stands c.deref.ensures.value c.waiting_place.ensures c.in-None.is) in
    leaves-eq _ _ _ c.args.out.now c.make.new.out (ap (challenged state c.args.from c.args.remote_id) none) (c.make.ensures.leaves state stands)
