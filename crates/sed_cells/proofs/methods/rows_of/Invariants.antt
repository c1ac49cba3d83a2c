use Rattle.std.proofs.Common.{◌≡◌, length}
use Rattle.sed_cells.specs.Nearest.{AreRows}
use Rattle.sed_cells.proofs.methods.rows_of.Given as goal

abbrev pub invariant-loop-class : goal.invariant-loop-class
invariant-loop-class l = (length l.rows.items ≡ l.class) × AreRows l.program l.rows.items
