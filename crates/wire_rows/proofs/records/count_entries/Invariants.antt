use Rattle.std.proofs.Common.{length}
use Rattle.wire_rows.proofs.records.count_entries.Given as goal

abbrev pub decreases-loop-event : goal.decreases-loop-event
decreases-loop-event l = length l.records
