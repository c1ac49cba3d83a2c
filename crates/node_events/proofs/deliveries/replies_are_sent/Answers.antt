use Rattle.node_events.proofs.Taking.{reply_sent}
use Rattle.node_events.proofs.deliveries.replies_are_sent.Goals as goal

pub returns : goal.returns
returns c = reply_sent
