use Rattle.node_events.proofs.InOrder.{part_skipped, part_told}
use Rattle.node_events.proofs.steps.events_come_part_by_part.Goals as goal

pub returns-clause-skipped : goal.returns-clause-skipped
returns-clause-skipped c = part_skipped

pub returns-clause-told : goal.returns-clause-told
returns-clause-told c = part_told
