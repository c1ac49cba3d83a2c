use Rattle.node_events.proofs.Here.{delivered_here}
use Rattle.node_events.proofs.deliveries.messages_change_their_session.Goals as goal

pub returns : goal.returns
returns c = delivered_here
