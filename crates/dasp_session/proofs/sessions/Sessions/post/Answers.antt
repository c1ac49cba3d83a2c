use Rattle.std.proofs.Common.{◌≡◌, ◌+◌, ℕ, ℤ, Bool, false, List, length, get_or, set, refl, sym, ◌∙◌, ap, subst, to_z, of_z, w64, rules}
use Rattle.std.specs.Prelude.{is_some, ◌&&◌, nat_lt, slice_get}
use Rattle.std.specs.Option.{option_map_or}
use Rattle.dasp_session.specs.declared.place.Place.{Place}
use Rattle.dasp_session.specs.Looking.{session_at}
use Rattle.dasp_session.specs.Receive.{at_place}
use Rattle.dasp_session.specs.Doing.{Does}
use Rattle.dasp_session.specs.Ticking.{posted_in}
use Rattle.dasp_session.proofs.StandLemmas.{Kept, kept_at, asked_set, leaves-eq, leaves_at, MayPost, may-parts, at_handed, messages_of, of_place, of_set}
use Rattle.dasp_session.proofs.sessions.Sessions.post.Goals as goal

pub returns-clause-leaves : goal.returns-clause-leaves
returns-clause-leaves c = λ state stands.
    let moment_is : to_z w64 (of_z w64 c.args.self.now.moment) ≡ c.args.self.now.moment = search rules in
    let kept : Kept (λ (place : Place). place.live && is_some place.user && nat_lt (length place.sender.messages) 31) c.args.self.now.places.items c.args.place = kept_at _ _ _ c.requires.may in
    let parts : MayPost c.index_mut.result.now = may-parts c.index_mut.result.now (at_handed _ _ _ _ kept (c.index_mut.ensures.value ∙ ap (λ (n : ℕ). get_or c.args.self.now.places.items n c.index_mut.result.now) c.from.ensures)) in
    leaves-eq _ _ _ c.args.out.now c.post.new.out (ap (λ (moment : ℤ). at_place state c.args.place (posted_in moment c.args.bytes.now) (session_at state c.args.place)) (sym stands.moment))
    (leaves_at c.args.self.now _ state c.args.place c.index_mut.result.now c.post.new.place (posted_in c.args.self.now.moment c.args.bytes.now) c.args.out.now c.post.new.out stands
    (record { users = refl; secret = refl; made = refl; moment = refl; places = ap (λ (n : ℕ). set c.args.self.now.places.items n c.post.new.place) c.from.ensures }) kept.within (c.index_mut.ensures.value ∙ ap (λ (n : ℕ). get_or c.args.self.now.places.items n c.index_mut.result.now) c.from.ensures) parts.live
    (λ session like. subst (λ (t : ℤ). Does session (posted_in t c.args.bytes.now session) c.post.new.place c.args.out.now c.post.new.out) moment_is (c.post.ensures.does session like)) (λ session. refl))

pub returns-clause-open : goal.returns-clause-open
returns-clause-open c =
    let kept : Kept (λ (place : Place). place.live && is_some place.user && nat_lt (length place.sender.messages) 31) c.args.self.now.places.items c.args.place = kept_at _ _ _ c.requires.may in
    let parts : MayPost c.index_mut.result.now = may-parts c.index_mut.result.now (at_handed _ _ _ _ kept (c.index_mut.ensures.value ∙ ap (λ (n : ℕ). get_or c.args.self.now.places.items n c.index_mut.result.now) c.from.ensures)) in
    ap (λ (n : ℕ). option_map_or (λ (place : Place). place.live && is_some place.user) (slice_get (set c.args.self.now.places.items n c.post.new.place) c.args.place) false) c.from.ensures
    ∙ asked_set (λ (place : Place). place.live && is_some place.user) c.args.self.now.places.items c.args.place c.post.new.place kept.within
    ∙ ap (λ (b : Bool). b && is_some c.post.new.place.user) c.post.ensures.live
    ∙ ap (is_some {T = List ℕ}) c.post.ensures.user ∙ parts.user

pub returns-clause-live : goal.returns-clause-live
returns-clause-live c =
    let kept : Kept (λ (place : Place). place.live && is_some place.user && nat_lt (length place.sender.messages) 31) c.args.self.now.places.items c.args.place = kept_at _ _ _ c.requires.may in
    ap (λ (n : ℕ). option_map_or (λ (place : Place). place.live) (slice_get (set c.args.self.now.places.items n c.post.new.place) c.args.place) false) c.from.ensures
    ∙ asked_set (λ (place : Place). place.live) c.args.self.now.places.items c.args.place c.post.new.place kept.within ∙ c.post.ensures.live

pub returns-clause-waits : goal.returns-clause-waits
returns-clause-waits c =
    let kept : Kept (λ (place : Place). place.live && is_some place.user && nat_lt (length place.sender.messages) 31) c.args.self.now.places.items c.args.place = kept_at _ _ _ c.requires.may in
    ap (λ (n : ℕ). option_map_or messages_of (slice_get (set c.args.self.now.places.items n c.post.new.place) c.args.place) 0) c.from.ensures
    ∙ of_set messages_of 0 c.args.self.now.places.items c.args.place c.post.new.place kept.within
    ∙ c.post.ensures.waits
    ∙ ap (λ (place : Place). messages_of place + 1) (c.index_mut.ensures.value ∙ ap (λ (n : ℕ). get_or c.args.self.now.places.items n c.index_mut.result.now) c.from.ensures)
    ∙ ap (λ (n : ℕ). n + 1) (sym (of_place messages_of 0 c.args.self.now.places.items c.args.place c.index_mut.result.now kept.within))
