use Rattle.node_events.proofs.InOrder.{event_kept, event_sent}
use Rattle.node_events.proofs.steps.events_are_sent.Goals as goal

pub returns-clause-sent : goal.returns-clause-sent
returns-clause-sent c = event_sent

pub returns-clause-kept : goal.returns-clause-kept
returns-clause-kept c = event_kept
