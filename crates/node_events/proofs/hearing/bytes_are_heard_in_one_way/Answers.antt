use Rattle.node_events.proofs.OneWay.{one_heard, one_run}
use Rattle.node_events.proofs.hearing.bytes_are_heard_in_one_way.Goals as goal

pub returns-clause-heard : goal.returns-clause-heard
returns-clause-heard c = one_heard c.bytes_are_one_message.ensures c.payloads_are_one_request.ensures.one

pub returns-clause-events : goal.returns-clause-events
returns-clause-events c = one_run c.bytes_are_one_message.ensures c.payloads_are_one_request.ensures.one
