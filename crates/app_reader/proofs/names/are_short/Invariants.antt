use Rattle.std.proofs.Common.{ℕ, ◌<◌, ◌≤◌, length, get_or}
use Rattle.app_front.specs.declared.rows.FileRow.{FileRow}
use Rattle.app_reader.proofs.names.are_short.Given as goal

abbrev pub invariant-loop-row : goal.invariant-loop-row
invariant-loop-row l = (k : ℕ) (d : FileRow) → k < l.row-index → length (get_or l.rows k d).name ≤ 7
