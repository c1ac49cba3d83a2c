use Rattle.node_events.proofs.Answering.{delivery_answered, delivery_refused}
use Rattle.node_events.proofs.deliveries.replies_are_answers.Goals as goal

pub returns-clause-refused : goal.returns-clause-refused
returns-clause-refused c = delivery_refused

pub returns-clause-answered : goal.returns-clause-answered
returns-clause-answered c = delivery_answered
