use Rattle.node_events.proofs.SomeWish.{some_heard}
use Rattle.node_events.proofs.hearing.bytes_are_heard.Goals as goal

pub returns : goal.returns
returns c = some_heard
