use Rattle.node_events.proofs.Moments.{delivered_same, run_goes_on, ticked_same}
use Rattle.node_events.proofs.runs.moments_never_go_back.Goals as goal

pub returns-clause-datagram : goal.returns-clause-datagram
returns-clause-datagram c = λ m s n from heard mishap. (delivered_same m s n from heard mishap).moment

pub returns-clause-tick : goal.returns-clause-tick
returns-clause-tick c = λ m s n moment. (ticked_same m s n moment).moment

pub returns-clause-run : goal.returns-clause-run
returns-clause-run c = run_goes_on
