use Rattle.node_events.proofs.Elsewhere.{delivered_one}
use Rattle.node_events.proofs.deliveries.datagrams_change_one_place.Goals as goal

pub returns : goal.returns
returns c = delivered_one
