use Rattle.node_events.proofs.BothRuns.{run_both}
use Rattle.node_events.proofs.runs.runs_follow_one_another.Goals as goal

pub returns : goal.returns
returns c = run_both
