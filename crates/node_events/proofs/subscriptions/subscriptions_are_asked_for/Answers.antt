use Rattle.node_events.proofs.Subscribing.{event_anew, event_was}
use Rattle.node_events.proofs.subscriptions.subscriptions_are_asked_for.Goals as goal

pub returns-clause-asked : goal.returns-clause-asked
returns-clause-asked c = event_was

pub returns-clause-anew : goal.returns-clause-anew
returns-clause-anew c = event_anew
