use Rattle.std.proofs.Common.{◌≡◌, ℕ, Bool, true, false, List, get_or, set, refl, sym, ◌∙◌, ap}
use Rattle.std.specs.Prelude.{is_some, ◌&&◌, slice_get}
use Rattle.std.specs.Option.{option_map_or}
use Rattle.dasp_session.specs.declared.place.Place.{Place}
use Rattle.dasp_session.specs.Ticking.{kept_up}
use Rattle.dasp_session.proofs.StandLemmas.{Kept, kept_at, asked_at, asked_set, leaves_at, at_handed, keeps-kept_up}
use Rattle.dasp_session.proofs.sessions.Sessions.keep.Goals as goal

pub returns-clause-leaves : goal.returns-clause-leaves
returns-clause-leaves c = λ state stands.
    let kept : Kept (λ (place : Place). place.live) c.args.self.now.places.items c.args.place = kept_at _ _ _ c.requires.live in
    leaves_at c.args.self.now _ state c.args.place c.index_mut.result.now c.keep_up.new.place kept_up c.args.out.now c.keep_up.new.out stands
    (record { users = refl; secret = refl; made = refl; moment = refl; places = ap (λ (n : ℕ). set c.args.self.now.places.items n c.keep_up.new.place) c.from.ensures }) kept.within (c.index_mut.ensures.value ∙ ap (λ (n : ℕ). get_or c.args.self.now.places.items n c.index_mut.result.now) c.from.ensures) (at_handed _ _ _ _ kept (c.index_mut.ensures.value ∙ ap (λ (n : ℕ). get_or c.args.self.now.places.items n c.index_mut.result.now) c.from.ensures))
    (λ session like. c.keep_up.ensures.does session like) keeps-kept_up

pub returns-clause-live : goal.returns-clause-live
returns-clause-live c =
    let kept : Kept (λ (place : Place). place.live) c.args.self.now.places.items c.args.place = kept_at _ _ _ c.requires.live in
    ap (λ (n : ℕ). option_map_or (λ (place : Place). place.live) (slice_get (set c.args.self.now.places.items n c.keep_up.new.place) c.args.place) false) c.from.ensures
    ∙ asked_set (λ (place : Place). place.live) c.args.self.now.places.items c.args.place c.keep_up.new.place kept.within ∙ c.keep_up.ensures.live

pub returns-clause-open : goal.returns-clause-open
returns-clause-open c =
    let kept : Kept (λ (place : Place). place.live) c.args.self.now.places.items c.args.place = kept_at _ _ _ c.requires.live in
    let was : c.index_mut.result.now.live ≡ true = at_handed (λ (place : Place). place.live) _ _ _ kept (c.index_mut.ensures.value ∙ ap (λ (n : ℕ). get_or c.args.self.now.places.items n c.index_mut.result.now) c.from.ensures) in
    let user : is_some c.keep_up.new.place.user ≡ is_some c.index_mut.result.now.user = ap (is_some {T = List ℕ}) c.keep_up.ensures.user in
    ap (λ (n : ℕ). option_map_or (λ (place : Place). place.live && is_some place.user) (slice_get (set c.args.self.now.places.items n c.keep_up.new.place) c.args.place) false) c.from.ensures
    ∙ asked_set (λ (place : Place). place.live && is_some place.user) c.args.self.now.places.items c.args.place c.keep_up.new.place kept.within
    ∙ ap (λ (b : Bool). b && is_some c.keep_up.new.place.user) c.keep_up.ensures.live ∙ user
    ∙ sym (ap (λ (b : Bool). b && is_some c.index_mut.result.now.user) was)
    ∙ ap (λ (place : Place). place.live && is_some place.user) (c.index_mut.ensures.value ∙ ap (λ (n : ℕ). get_or c.args.self.now.places.items n c.index_mut.result.now) c.from.ensures)
    ∙ sym (asked_at (λ (place : Place). place.live && is_some place.user) c.args.self.now.places.items c.args.place c.index_mut.result.now kept.within)
