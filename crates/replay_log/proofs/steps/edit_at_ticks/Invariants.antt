use Rattle.replay_log.specs.Making.{EditsAll}
use Rattle.replay_log.proofs.steps.edit_at_ticks.Given as goal

abbrev pub invariant-loop-n : goal.invariant-loop-n
invariant-loop-n l = EditsAll l.fn.spec l.n l.fn.making l.making
