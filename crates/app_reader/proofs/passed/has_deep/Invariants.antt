use Rattle.std.proofs.Common.{◌≡◌, false, take}
use Rattle.std.specs.Prelude.{nat_lt}
use Rattle.std.specs.List.{list_any}
use Rattle.row_tree.specs.declared.tree_rows.TreeRow.{TreeRow}
use Rattle.comp_tree.specs.Application.{greatest_depth}
use Rattle.app_reader.specs.Passed.{depth_in}
use Rattle.app_reader.proofs.passed.has_deep.Given as goal

abbrev pub invariant-loop-row : goal.invariant-loop-row
invariant-loop-row l = list_any (λ (r : TreeRow). nat_lt greatest_depth (depth_in l.rows r)) (take l.row-index l.rows) ≡ false
