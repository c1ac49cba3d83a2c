use Rattle.std.proofs.Common.{refl, ◌∙◌}
use Rattle.replay_log.specs.Generated.{linked}
use Rattle.replay_log.proofs.GeneratedLemmas.{link-added}
use Rattle.replay_log.proofs.steps.add_link.Goals as goal

pub returns-clause-does : goal.returns-clause-does
returns-clause-does c =
    link-added c.args.places.now _ c.in_turn.result c.args.j c.draw.result c.place_in-from.result
    c.place_in-to.result _ _ _ c.place_in-from.ensures c.place_in-to.ensures c.draw.ensures.drawn
    c.draw.ensures.others c.in_turn.ensures
    (c.in_ok-ask.ensures.does (linked c.place_in-from.result c.place_in-to.result) refl
    (c.deref.ensures.value ∙ c.in_ok-body.ensures.is))
