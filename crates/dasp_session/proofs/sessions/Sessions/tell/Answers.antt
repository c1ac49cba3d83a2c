use Rattle.std.proofs.Common.{◌≡◌, ◌<◌, ◌+◌, ◌%◌, ℕ, ℤ, Bool, true, false, List, length, get_or, set, refl, sym, ◌∙◌, ap, subst, arith, zero-add, to_z, of_z, w64, rules}
use Rattle.std.specs.Prelude.{Option, Some, is_some, ◌&&◌, nat_lt, slice_get}
use Rattle.std.specs.Option.{option_map_or}
use Rattle.std.proofs.lemmas.List.{get_or_default}
use Rattle.dasp_session.specs.declared.user.User.{User}
use Rattle.dasp_msg.specs.View.{message_of}
use Rattle.dasp_session.specs.declared.handed.Handed.TheVariants.{Nothing}
use Rattle.dasp_session.specs.declared.place.Place.{Place}
use Rattle.dasp_session.specs.Doing.{Does, IsEffect}
use Rattle.dasp_session.specs.Hearing.{in_session}
use Rattle.sed_outside.specs.declared.addr.Addr.{Addr}
use Rattle.dasp_session.specs.declared.handed.Handed.{Handed}
use Rattle.dasp_session.specs.Keeping.{AllHold, is_here}
use Rattle.dasp_session.specs.Looking.{Found}
use Rattle.dasp_session.specs.Receive.{in_found, handed_at}
use Rattle.dasp_session.specs.Session.{Session}
use Rattle.dasp_session.specs.Standing.{Leaves, IsHanded}
use Rattle.dasp_session.proofs.OutboxLemmas.{Sends-none}
use Rattle.dasp_session.proofs.PlaceLemmas.{HoldsId, found_here, found_nowhere}
use Rattle.dasp_session.proofs.StandLemmas.{leaves-eq, steps_at, keeps-in_session, handed-effect, ToldAt, told_at, ended_in, asked_set}
use Rattle.dasp_session.proofs.sessions.Sessions.tell.Goals as goal

pub returns-then-not-is_here-clause-leaves : goal.returns-then-not-is_here-clause-leaves
returns-then-not-is_here-clause-leaves c = λ state stands.
    let place : ℕ = c.place_of-place.result in
    let places : List Place = c.args.self.now.places.items in
    let within : place < length places = omega (arith, c.place_of-place.ensures, c.args.self.now.sixteen) in
    let at : c.args.msg.now.to % 16 ≡ 0 + place = omega (arith, c.place_of-place.ensures) in
    let other : is_here c.args.msg.now.to c.args.from (get_or places place c.index.result.now) ≡ false =
    ap (is_here c.args.msg.now.to c.args.from) (sym c.index.ensures) ∙ sym c.is_here.ensures ∙ c.if-not-is_here.true in
    subst (λ (found : Option Found). Leaves (in_found state (message_of c.args.msg.now) found) c.args.self.now c.args.out.now c.args.out.now)
    (sym (found_nowhere c.args.msg.now.to c.args.from 0 places state.sessions stands.places place c.index.result.now at within other))
    (record { state = stands; sent = Sends-none c.args.out.now })

pub returns-then-not-is_here-clause-hands : goal.returns-then-not-is_here-clause-hands
returns-then-not-is_here-clause-hands c = λ state stands.
    let place : ℕ = c.place_of-place.result in
    let places : List Place = c.args.self.now.places.items in
    let within : place < length places = omega (arith, c.place_of-place.ensures, c.args.self.now.sixteen) in
    let at : c.args.msg.now.to % 16 ≡ 0 + place = omega (arith, c.place_of-place.ensures) in
    let other : is_here c.args.msg.now.to c.args.from (get_or places place c.index.result.now) ≡ false =
    ap (is_here c.args.msg.now.to c.args.from) (sym c.index.ensures) ∙ sym c.is_here.ensures ∙ c.if-not-is_here.true in
    subst (λ (found : Option Found). IsHanded c.args.at c.args.msg.now.payload.now (in_found state (message_of c.args.msg.now) found).handing Nothing)
    (sym (found_nowhere c.args.msg.now.to c.args.from 0 places state.sessions stands.places place c.index.result.now at within other)) refl

-- the session of the place that the call was handed
here : (id : ℕ) (from : Addr) (places : List Place) (sessions : List (Option Session)) (place : ℕ) (looked handed : Place) (answer : Bool) → AllHold 0 places sessions
    → looked ≡ get_or places place looked → handed ≡ get_or places place handed → answer ≡ is_here id from looked → answer ≡ true → id % 16 ≡ 0 + place → place < length places
    → HoldsId id from 0 place handed sessions
here id from places sessions place looked handed answer all at_looked at_handed is good at within =
    let same : handed ≡ looked = at_handed ∙ get_or_default places place handed looked within ∙ sym at_looked in
    subst (λ (p : Place). HoldsId id from 0 place p sessions) (sym at_handed)
    (found_here id from 0 places sessions all place handed at within
    (ap (is_here id from) (sym at_handed ∙ same) ∙ sym is ∙ good))

pub returns-clause-leaves : goal.returns-clause-leaves
returns-clause-leaves c = λ state stands.
    let place : ℕ = c.place_of-place.result in
    let places : List Place = c.args.self.now.places.items in
    let within : place < length places = omega (arith, c.place_of-place.ensures, c.args.self.now.sixteen) in
    let at : c.args.msg.now.to % 16 ≡ 0 + place = omega (arith, c.place_of-place.ensures) in
    let it : HoldsId c.args.msg.now.to c.args.from 0 place c.index_mut.result.now state.sessions =
    here c.args.msg.now.to c.args.from places state.sessions place c.index.result.now c.index_mut.result.now c.is_here.result stands.places
    c.index.ensures c.index_mut.ensures.value c.is_here.ensures c.if-not-is_here.false at within in
    let moment_is : to_z w64 (of_z w64 c.args.self.now.moment) ≡ c.args.self.now.moment = search rules in
    let does : Does it.session (in_session state.users state.moment (message_of c.args.msg.now) it.session) c.hear-effect.new.place c.args.out.now c.hear-effect.new.out =
    subst (λ (users : List User). Does it.session (in_session users state.moment (message_of c.args.msg.now) it.session) c.hear-effect.new.place c.args.out.now c.hear-effect.new.out) stands.users
    (subst (λ (moment : ℤ). Does it.session (in_session c.args.self.now.users moment (message_of c.args.msg.now) it.session) c.hear-effect.new.place c.args.out.now c.hear-effect.new.out) stands.moment
    (subst (λ (moment : ℤ). Does it.session (in_session c.args.self.now.users moment (message_of c.args.msg.now) it.session) c.hear-effect.new.place c.args.out.now c.hear-effect.new.out) moment_is
    (c.hear-effect.ensures.does it.session it.like))) in
    leaves-eq _ _ _ c.args.out.now c.hear-effect.new.out
    (ap (in_found state (message_of c.args.msg.now)) (it.found ∙ ap (λ (n : ℕ). Some (record { place = n; session = it.session })) (zero-add place)))
    (steps_at c.args.self.now _ state place c.hear-effect.new.place c.index_mut.result.now it.session (in_session state.users state.moment (message_of c.args.msg.now) it.session)
    c.args.out.now c.hear-effect.new.out stands (record { users = refl; secret = refl; made = refl; moment = refl; places = refl }) within it.there does
    (keeps-in_session state.users state.moment (message_of c.args.msg.now) it.session))

pub returns-clause-hands : goal.returns-clause-hands
returns-clause-hands c = λ state stands.
    let place : ℕ = c.place_of-place.result in
    let places : List Place = c.args.self.now.places.items in
    let within : place < length places = omega (arith, c.place_of-place.ensures, c.args.self.now.sixteen) in
    let at : c.args.msg.now.to % 16 ≡ 0 + place = omega (arith, c.place_of-place.ensures) in
    let it : HoldsId c.args.msg.now.to c.args.from 0 place c.index_mut.result.now state.sessions =
    here c.args.msg.now.to c.args.from places state.sessions place c.index.result.now c.index_mut.result.now c.is_here.result stands.places
    c.index.ensures c.index_mut.ensures.value c.is_here.ensures c.if-not-is_here.false at within in
    let moment_is : to_z w64 (of_z w64 c.args.self.now.moment) ≡ c.args.self.now.moment = search rules in
    let effect : IsEffect c.args.msg.now.payload.now (in_session state.users state.moment (message_of c.args.msg.now) it.session).effect c.hear-effect.result =
    subst (λ (users : List User). IsEffect c.args.msg.now.payload.now (in_session users state.moment (message_of c.args.msg.now) it.session).effect c.hear-effect.result) stands.users
    (subst (λ (moment : ℤ). IsEffect c.args.msg.now.payload.now (in_session c.args.self.now.users moment (message_of c.args.msg.now) it.session).effect c.hear-effect.result) stands.moment
    (subst (λ (moment : ℤ). IsEffect c.args.msg.now.payload.now (in_session c.args.self.now.users moment (message_of c.args.msg.now) it.session).effect c.hear-effect.result) moment_is
    (c.hear-effect.ensures.effect it.session it.like))) in
    subst (λ (found : Option Found). IsHanded c.args.at c.args.msg.now.payload.now (in_found state (message_of c.args.msg.now) found).handing c.handed.result)
    (sym (it.found ∙ ap (λ (n : ℕ). Some (record { place = n; session = it.session })) (zero-add place)))
    (subst (λ (handed : Handed). IsHanded c.args.at c.args.msg.now.payload.now (handed_at place (in_session state.users state.moment (message_of c.args.msg.now) it.session).effect) handed) (sym c.handed.ensures)
    (handed-effect place c.args.at c.args.msg.now.payload.now (in_session state.users state.moment (message_of c.args.msg.now) it.session).effect c.hear-effect.result effect))

pub returns-clause-payload : goal.returns-clause-payload
returns-clause-payload c = λ other begins is.
    let place : ℕ = c.place_of-place.result in
    let within : place < length c.args.self.now.places.items = omega (arith, c.place_of-place.ensures, c.args.self.now.sixteen) in
    let it : ToldAt c.hear-effect.result place c.args.at other begins = told_at c.hear-effect.result place c.args.at other begins (sym c.handed.ensures ∙ is) in
    let test : Place → Bool = λ kept. kept.live && is_some kept.user && nat_lt (length kept.sender.messages) 31 in
    subst (λ (n : ℕ). option_map_or test (slice_get (set c.args.self.now.places.items place c.hear-effect.new.place) n) false ≡ true) it.place
    (asked_set test c.args.self.now.places.items place c.hear-effect.new.place within ∙ c.hear-effect.ensures.room it.payload)

pub returns-clause-at_is : goal.returns-clause-at_is
returns-clause-at_is c = λ other begins is.
    let place : ℕ = c.place_of-place.result in
    sym (told_at c.hear-effect.result place c.args.at other begins (sym c.handed.ensures ∙ is)).start

pub returns-clause-payload_place : goal.returns-clause-payload_place
returns-clause-payload_place c = λ other begins is.
    let place : ℕ = c.place_of-place.result in
    let same : place ≡ other = (told_at c.hear-effect.result place c.args.at other begins (sym c.handed.ensures ∙ is)).place in
    omega (arith, same, c.place_of-place.ensures)

pub returns-clause-ended_place : goal.returns-clause-ended_place
returns-clause-ended_place c = λ other is.
    let place : ℕ = c.place_of-place.result in
    let same : place ≡ other = ended_in c.hear-effect.result place c.args.at other (sym c.handed.ensures ∙ is) in
    omega (arith, same, c.place_of-place.ensures)
