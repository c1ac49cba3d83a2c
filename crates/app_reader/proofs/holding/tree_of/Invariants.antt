use Rattle.std.proofs.Common.{◌≡◌, take}
use Rattle.app_reader.specs.FormedFile.{tree_rows}
use Rattle.app_reader.proofs.holding.tree_of.Given as goal

abbrev pub invariant-loop-row : goal.invariant-loop-row
invariant-loop-row l = l.tree.items ≡ tree_rows (take l.row-index l.rows)
