use Rattle.std.proofs.Common.{◌≡◌, ◌++◌}
use Rattle.scode_entries.specs.Below.{kinds_on}
use Rattle.scode_entries.proofs.marks.row_of.Given as goal

abbrev pub invariant-loop-rest : goal.invariant-loop-rest
invariant-loop-rest l = l.row.items ++ kinds_on l.rest ≡ kinds_on l.below
