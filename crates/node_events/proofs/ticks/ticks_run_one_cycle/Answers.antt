use Rattle.node_events.proofs.Moments.{ticked_goes}
use Rattle.node_events.proofs.ticks.ticks_run_one_cycle.Goals as goal

pub returns : goal.returns
returns c = λ m s n moment. (ticked_goes m s n moment).application
