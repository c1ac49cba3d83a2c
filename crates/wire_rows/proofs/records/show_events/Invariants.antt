use Rattle.std.proofs.Common.{length}
use Rattle.wire_rows.proofs.records.show_events.Given as goal

abbrev pub decreases-loop-event : goal.decreases-loop-event
decreases-loop-event l = length l.records
