use Rattle.std.proofs.Common.{◌≡◌, map, take}
use Rattle.sed_cells.specs.Cells.{cell_value}
use Rattle.sed_cells.proofs.cells.Cells.copy.Given as goal

abbrev pub invariant-loop-cell : goal.invariant-loop-cell
invariant-loop-cell l = map cell_value l.all.items ≡ map cell_value (take l.cell-index l.cell-items)
