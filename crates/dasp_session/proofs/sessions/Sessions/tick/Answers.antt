use Rattle.std.proofs.Common.{◌≡◌, ◌≤◌, ◌+◌, ℕ, ℤ, Bool, true, false, not, List, length, get_or, set, refl, sym, ◌∙◌, ap, subst, to_z, of_z, w64, rules}
use Rattle.std.specs.Prelude.{Option, is_some, ◌&&◌, slice_get}
use Rattle.std.specs.Option.{option_map_or}
use Rattle.dasp_session.specs.declared.place.Place.{Place}
use Rattle.dasp_session.specs.Looking.{session_at}
use Rattle.dasp_session.specs.Receive.{at_place}
use Rattle.dasp_session.specs.Session.{Session}
use Rattle.dasp_session.specs.Doing.{Does}
use Rattle.dasp_session.specs.Keeping.{Holds}
use Rattle.dasp_session.specs.Standing.{is_ended}
use Rattle.dasp_session.specs.Ticking.{ticked, is_over}
use Rattle.dasp_session.proofs.PlaceLemmas.{holds_at}
use Rattle.dasp_session.proofs.StandLemmas.{Kept, kept_at, asked_at, asked_set, leaves-eq, leaves_at, at_handed, keeps-ticked, ended-ticked, Lives, lives, messages_of, of_set}
use Rattle.dasp_session.proofs.sessions.Sessions.tick.Goals as goal

-- how many messages wait in a place that was changed
waiting : (places : List Place) (k given : ℕ) (place : Place) → Kept (λ (place : Place). place.live) places k → given ≡ k
    → option_map_or messages_of (slice_get (set places given place) k) 0 ≡ messages_of place
waiting places k given place kept same =
    ap (λ (n : ℕ). option_map_or messages_of (slice_get (set places n place) k) 0) same
    ∙ of_set messages_of 0 places k place kept.within

pub returns-clause-leaves : goal.returns-clause-leaves
returns-clause-leaves c = λ state stands.
    let moment_is : to_z w64 (of_z w64 c.args.self.now.moment) ≡ c.args.self.now.moment = search rules in
    let kept : Kept (λ (place : Place). place.live) c.args.self.now.places.items c.args.place = kept_at _ _ _ c.requires.live in
    leaves-eq _ _ _ c.args.out.now c.tick.new.out (ap (λ (moment : ℤ). at_place state c.args.place (ticked moment) (session_at state c.args.place)) (sym stands.moment))
    (leaves_at c.args.self.now _ state c.args.place c.index_mut.result.now c.tick.new.place (ticked c.args.self.now.moment) c.args.out.now c.tick.new.out stands
    (record { users = refl; secret = refl; made = refl; moment = refl; places = ap (λ (n : ℕ). set c.args.self.now.places.items n c.tick.new.place) c.from.ensures }) kept.within (c.index_mut.ensures.value ∙ ap (λ (n : ℕ). get_or c.args.self.now.places.items n c.index_mut.result.now) c.from.ensures) (at_handed _ _ _ _ kept (c.index_mut.ensures.value ∙ ap (λ (n : ℕ). get_or c.args.self.now.places.items n c.index_mut.result.now) c.from.ensures))
    (λ session like. subst (λ (t : ℤ). Does session (ticked t session) c.tick.new.place c.args.out.now c.tick.new.out) moment_is (c.tick.ensures.does session like)) (keeps-ticked c.args.self.now.moment))

pub returns-clause-answer : goal.returns-clause-answer
returns-clause-answer c = λ state stands.
    let kept : Kept (λ (place : Place). place.live) c.args.self.now.places.items c.args.place = kept_at _ _ _ c.requires.live in
    let was : c.index_mut.result.now.live ≡ true = at_handed (λ (place : Place). place.live) _ _ _ kept (c.index_mut.ensures.value ∙ ap (λ (n : ℕ). get_or c.args.self.now.places.items n c.index_mut.result.now) c.from.ensures) in
    let holds : Holds c.index_mut.result.now (session_at state c.args.place) =
    subst (λ (place : Place). Holds place (session_at state c.args.place)) (sym (c.index_mut.ensures.value ∙ ap (λ (n : ℕ). get_or c.args.self.now.places.items n c.index_mut.result.now) c.from.ensures))
    (holds_at 0 c.args.self.now.places.items state.sessions stands.places c.args.place c.index_mut.result.now kept.within).0 in
    let it : Lives c.index_mut.result.now (session_at state c.args.place) = lives c.index_mut.result.now (session_at state c.args.place) holds was in
    let moment_is : to_z w64 (of_z w64 c.args.self.now.moment) ≡ c.args.self.now.moment = search rules in
    subst (λ (t : ℤ). c.tick.result ≡ not (is_over t it.session)) moment_is (c.tick.ensures.answer it.session it.like)
    ∙ ap (λ (moment : ℤ). not (is_over moment it.session)) stands.moment
    ∙ ap not (sym (ended-ticked c.args.place state.moment it.session))
    ∙ sym (ap (λ (slot : Option Session). not (is_ended (at_place state c.args.place (ticked state.moment) slot).handing)) it.there)

pub returns-clause-live : goal.returns-clause-live
returns-clause-live c =
    let kept : Kept (λ (place : Place). place.live) c.args.self.now.places.items c.args.place = kept_at _ _ _ c.requires.live in
    ap (λ (n : ℕ). option_map_or (λ (place : Place). place.live) (slice_get (set c.args.self.now.places.items n c.tick.new.place) c.args.place) false) c.from.ensures
    ∙ asked_set (λ (place : Place). place.live) c.args.self.now.places.items c.args.place c.tick.new.place kept.within ∙ c.tick.ensures.live

pub returns-clause-open : goal.returns-clause-open
returns-clause-open c =
    let kept : Kept (λ (place : Place). place.live) c.args.self.now.places.items c.args.place = kept_at _ _ _ c.requires.live in
    let was : c.index_mut.result.now.live ≡ true = at_handed (λ (place : Place). place.live) _ _ _ kept (c.index_mut.ensures.value ∙ ap (λ (n : ℕ). get_or c.args.self.now.places.items n c.index_mut.result.now) c.from.ensures) in
    let user : is_some c.tick.new.place.user ≡ is_some c.index_mut.result.now.user = ap (is_some {T = List ℕ}) c.tick.ensures.user in
    ap (λ (n : ℕ). option_map_or (λ (place : Place). place.live && is_some place.user) (slice_get (set c.args.self.now.places.items n c.tick.new.place) c.args.place) false) c.from.ensures
    ∙ asked_set (λ (place : Place). place.live && is_some place.user) c.args.self.now.places.items c.args.place c.tick.new.place kept.within
    ∙ ap (λ (b : Bool). b && is_some c.tick.new.place.user) c.tick.ensures.live
    ∙ ap (λ (b : Bool). c.tick.result && b) user
    ∙ ap (λ (b : Bool). c.tick.result && (b && is_some c.index_mut.result.now.user)) (sym was)
    ∙ ap (λ (place : Place). c.tick.result && (place.live && is_some place.user)) (c.index_mut.ensures.value ∙ ap (λ (n : ℕ). get_or c.args.self.now.places.items n c.index_mut.result.now) c.from.ensures)
    ∙ ap (λ (b : Bool). c.tick.result && b) (sym (asked_at (λ (place : Place). place.live && is_some place.user) c.args.self.now.places.items c.args.place c.index_mut.result.now kept.within))

pub returns-clause-waits : goal.returns-clause-waits
returns-clause-waits c = λ on.
    let kept : Kept (λ (place : Place). place.live) c.args.self.now.places.items c.args.place = kept_at _ _ _ c.requires.live in
    subst (λ (n : ℕ). length c.tick.new.out ≤ length c.args.out.now + n)
    (sym (waiting c.args.self.now.places.items c.args.place _ c.tick.new.place kept c.from.ensures)) (c.tick.ensures.waits on)

pub returns-clause-most : goal.returns-clause-most
returns-clause-most c =
    let kept : Kept (λ (place : Place). place.live) c.args.self.now.places.items c.args.place = kept_at _ _ _ c.requires.live in
    subst (λ (n : ℕ). n ≤ 31) (sym (waiting c.args.self.now.places.items c.args.place _ c.tick.new.place kept c.from.ensures)) c.tick.ensures.most
