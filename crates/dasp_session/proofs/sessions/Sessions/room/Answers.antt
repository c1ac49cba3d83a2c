use Rattle.std.proofs.Common.{◌≡◌, ℕ, Bool, true, false, length, get_or, sym, ◌∙◌, ap, subst}
use Rattle.std.specs.Prelude.{Option, is_some, ◌&&◌, nat_lt}
use Rattle.std.specs.Option.{option_map_or}
use Rattle.dasp_msg.specs.Posted.{has_room}
use Rattle.dasp_session.specs.declared.place.Place.{Place}
use Rattle.dasp_session.specs.Looking.{session_at}
use Rattle.dasp_session.specs.Keeping.{Holds}
use Rattle.dasp_session.specs.Session.{Session}
use Rattle.dasp_session.proofs.PlaceLemmas.{holds_at}
use Rattle.dasp_session.proofs.StandLemmas.{Kept, kept_at, asked_at, Lives, lives}
use Rattle.dasp_session.proofs.sessions.Sessions.room.Goals as goal

pub returns-clause-stands : goal.returns-clause-stands
returns-clause-stands c = λ state stands.
    let kept : Kept (λ (place : Place). place.live) c.args.self.now.places.items c.args.place = kept_at _ _ _ c.requires in
    let live : c.index.result.now.live ≡ true = ap (λ (place : Place). place.live) (c.index.ensures ∙ ap (λ (n : ℕ). get_or c.args.self.now.places.items n c.index.result.now) c.from.ensures) ∙ kept.holds c.index.result.now in
    let holds : Holds c.index.result.now (session_at state c.args.place) =
    subst (λ (place : Place). Holds place (session_at state c.args.place)) (sym (c.index.ensures ∙ ap (λ (n : ℕ). get_or c.args.self.now.places.items n c.index.result.now) c.from.ensures))
    (holds_at 0 c.args.self.now.places.items state.sessions stands.places c.args.place c.index.result.now kept.within).0 in
    let it : Lives c.index.result.now (session_at state c.args.place) = lives c.index.result.now (session_at state c.args.place) holds live in
    c.room.ensures.posted it.session.posted it.like.windows.sends
    ∙ sym (ap (λ (slot : Option Session). option_map_or (λ (session : Session). has_room session.posted) slot false) it.there)

pub returns-clause-kept : goal.returns-clause-kept
returns-clause-kept c =
    let kept : Kept (λ (place : Place). place.live) c.args.self.now.places.items c.args.place = kept_at _ _ _ c.requires in
    let open_here : Place → Bool = λ place. place.live && is_some place.user in
    asked_at (λ (place : Place). place.live && is_some place.user && nat_lt (length place.sender.messages) 31) c.args.self.now.places.items c.args.place c.index.result.now kept.within
    ∙ ap (λ (place : Place). place.live && is_some place.user && nat_lt (length place.sender.messages) 31) (sym (c.index.ensures ∙ ap (λ (n : ℕ). get_or c.args.self.now.places.items n c.index.result.now) c.from.ensures))
    ∙ ap (λ (b : Bool). open_here c.index.result.now && b) (sym c.room.ensures.window)
    ∙ ap (λ (place : Place). open_here place && c.room.result) (c.index.ensures ∙ ap (λ (n : ℕ). get_or c.args.self.now.places.items n c.index.result.now) c.from.ensures)
    ∙ ap (λ (b : Bool). b && c.room.result) (sym (asked_at open_here c.args.self.now.places.items c.args.place c.index.result.now kept.within))
