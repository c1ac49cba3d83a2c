use Rattle.std.proofs.Common.{get_or, ℕ, ◌<◌, length, sym, ◌∙◌, ap, subst, arith}
use Rattle.dasp_session.specs.declared.place.Place.{Place}
use Rattle.dasp_session.specs.Looking.{session_at}
use Rattle.dasp_session.specs.Keeping.{Holds}
use Rattle.dasp_session.proofs.PlaceLemmas.{holds_at, live-some}
use Rattle.dasp_session.proofs.StandLemmas.{asked_at}
use Rattle.dasp_session.proofs.sessions.Sessions.is_live.Goals as goal

pub returns-clause-stands : goal.returns-clause-stands
returns-clause-stands c = λ state stands.
    let within : c.args.place < length c.args.self.now.places.items = omega (arith, c.args.self.now.sixteen) in
    let holds : Holds c.index.result.now (session_at state c.args.place) =
    subst (λ (place : Place). Holds place (session_at state c.args.place)) (sym (c.index.ensures ∙ ap (λ (n : ℕ). get_or c.args.self.now.places.items n c.index.result.now) c.from.ensures))
    (holds_at 0 c.args.self.now.places.items state.sessions stands.places c.args.place c.index.result.now within).0 in
    live-some c.index.result.now (session_at state c.args.place) holds

pub returns-clause-kept : goal.returns-clause-kept
returns-clause-kept c =
    let within : c.args.place < length c.args.self.now.places.items = omega (arith, c.args.self.now.sixteen) in
    ap (λ (place : Place). place.live) (c.index.ensures ∙ ap (λ (n : ℕ). get_or c.args.self.now.places.items n c.index.result.now) c.from.ensures)
    ∙ sym (asked_at (λ (place : Place). place.live) c.args.self.now.places.items c.args.place c.index.result.now within)
