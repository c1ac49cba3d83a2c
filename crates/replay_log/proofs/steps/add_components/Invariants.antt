use Rattle.replay_log.specs.Making.{AddsAll}
use Rattle.replay_log.proofs.steps.add_components.Given as goal

abbrev pub invariant-loop-i : goal.invariant-loop-i
invariant-loop-i l = AddsAll l.fn.spec l.i l.fn.making l.making l.places.items
