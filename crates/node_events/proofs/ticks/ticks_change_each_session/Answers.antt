use Rattle.node_events.proofs.Here.{place_here}
use Rattle.node_events.proofs.ticks.ticks_change_each_session.Goals as goal

pub returns : goal.returns
returns c = λ m t place. place_here m place t
