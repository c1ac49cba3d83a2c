use Rattle.std.proofs.Common.{ap}
use Rattle.dasp_session.specs.Receive.{Outcome}
use Rattle.node_events.specs.Delivering.{received_by}
use Rattle.node_events.proofs.deliveries.strangers_leave_a_node.Goals as goal

pub returns-clause-stranger : goal.returns-clause-stranger
returns-clause-stranger c = λ m s n from heard mishap other none.
    ap (λ (outcome : Outcome). received_by m s heard.wish mishap n outcome) (c.strangers_change_nothing.ensures n.sessions from heard.message other none)
