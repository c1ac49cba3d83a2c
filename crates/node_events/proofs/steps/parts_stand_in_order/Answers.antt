use Rattle.node_events.proofs.InOrder.{parts_ascend, parts_listed}
use Rattle.node_events.proofs.steps.parts_stand_in_order.Goals as goal

pub returns-clause-listed : goal.returns-clause-listed
returns-clause-listed c = parts_listed

pub returns-clause-ascend : goal.returns-clause-ascend
returns-clause-ascend c = parts_ascend
