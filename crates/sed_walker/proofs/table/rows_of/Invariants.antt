use Rattle.std.proofs.Common.{◌≡◌, length}
use Rattle.sed_walker.specs.Slots.{AreRows}
use Rattle.sed_walker.proofs.table.rows_of.Given as goal

abbrev pub invariant-loop-class : goal.invariant-loop-class
invariant-loop-class l = (length l.rows.items ≡ l.class) × AreRows l.plan l.rows.items
