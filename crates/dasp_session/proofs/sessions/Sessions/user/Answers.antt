use Rattle.std.proofs.Common.{◌≡◌, get_or, ◌<◌, ℕ, Bool, true, false, cond, List, length, refl, sym, ◌∙◌, ap, subst, arith}
use Rattle.std.specs.Prelude.{Option, Some, None, is_some, ◌&&◌}
use Rattle.std.specs.Option.{option_map, option_and_then}
use Rattle.dasp_session.specs.declared.place.Place.{Place}
use Rattle.dasp_session.specs.Looking.{session_at}
use Rattle.dasp_session.specs.Keeping.{Holds}
use Rattle.dasp_session.specs.Session.{Session}
use Rattle.dasp_session.proofs.PlaceLemmas.{holds_at}
use Rattle.dasp_session.proofs.StandLemmas.{asked_at}
use Rattle.dasp_session.proofs.sessions.Sessions.user.Goals as goal

-- the user of a place is that of the session that it holds
user-held : (place : Place) (slot : Option Session) → Holds place slot → cond place.live place.user None ≡ option_and_then (λ session. session.user) slot
user-held place None holds = ap (λ (b : Bool). cond b place.user None) holds
user-held place (Some session) holds =
    ap (λ (b : Bool). cond b place.user None) holds.0 ∙ sym (ap (λ (s : Session). s.user) holds.1.same)

some-user : (live : Bool) (user : Option (List ℕ)) → is_some (cond live user None) ≡ (live && is_some user)
some-user true user = refl
some-user false user = refl

some-map : {A B : Type 0} (f : A → B) (o : Option A) → is_some o ≡ is_some (option_map f o)
some-map f None = refl
some-map f (Some x) = refl

pub returns-clause-stands : goal.returns-clause-stands
returns-clause-stands c = λ state stands.
    let within : c.args.place < length c.args.self.now.places.items = omega (arith, c.args.self.now.sixteen) in
    let holds : Holds c.index.result.now (session_at state c.args.place) =
    subst (λ (place : Place). Holds place (session_at state c.args.place)) (sym (c.index.ensures ∙ ap (λ (n : ℕ). get_or c.args.self.now.places.items n c.index.result.now) c.from.ensures))
    (holds_at 0 c.args.self.now.places.items state.sessions stands.places c.args.place c.index.result.now within).0 in
    c.user_of.ensures ∙ user-held c.index.result.now (session_at state c.args.place) holds

pub returns-clause-kept : goal.returns-clause-kept
returns-clause-kept c =
    let within : c.args.place < length c.args.self.now.places.items = omega (arith, c.args.self.now.sixteen) in
    some-map _ c.user_of.result ∙ ap is_some c.user_of.ensures ∙ some-user c.index.result.now.live c.index.result.now.user
    ∙ ap (λ (place : Place). place.live && is_some place.user) (c.index.ensures ∙ ap (λ (n : ℕ). get_or c.args.self.now.places.items n c.index.result.now) c.from.ensures)
    ∙ sym (asked_at (λ (place : Place). place.live && is_some place.user) c.args.self.now.places.items c.args.place c.index.result.now within)
