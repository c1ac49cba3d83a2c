use Rattle.replay_log.proofs.GeneratedLemmas.{edits-more, edits-none}
use Rattle.replay_log.proofs.steps.edit_at_ticks.Goals as goal

pub loop-n-init : goal.loop-n-init
loop-n-init c = edits-none _ _ c.requires.drawn

pub loop-n-preserved : goal.loop-n-preserved
loop-n-preserved c = edits-more _ _ _ _ _ c.loop-n.invariant c.in_ok-edit_at_tick.ensures
