use Rattle.std.proofs.Common.{List, ◌∙◌, ap}
use Rattle.std.specs.Prelude.{count_by}
use Rattle.dasp_session.specs.declared.place.Place.{Place}
use Rattle.dasp_session.proofs.PlaceLemmas.{count-agree}
use Rattle.dasp_session.proofs.sessions.Sessions.live.Goals as goal

pub returns : goal.returns
returns c = λ state stands.
    c.count_live.ensures.value
    ∙ ap (λ (places : List Place). count_by (λ (place : Place). place.live) places) c.deref.ensures.value
    ∙ count-agree 0 c.args.self.now.places.items state.sessions stands.places
