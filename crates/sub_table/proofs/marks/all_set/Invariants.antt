use Rattle.std.proofs.Common.{◌≡◌, true, replicate}
use Rattle.sub_table.proofs.marks.all_set.Given as goal

-- a row for each id before this one
abbrev pub invariant-loop-id : goal.invariant-loop-id
invariant-loop-id l = l.rows.items ≡ replicate l._id (replicate 16 true)
