use Rattle.std.proofs.Common.{◌≡◌, ◌<◌, ℕ, length, get_or}
use Rattle.std.specs.Prelude.{None}
use Rattle.sed_walker.specs.Slots.{IsCell}
use Rattle.sed_walker.proofs.table.row_of.Given as goal

abbrev pub invariant-loop-slot : goal.invariant-loop-slot
invariant-loop-slot l = (length l.row.items ≡ l.slot) × ((k : ℕ) → k < l.slot → IsCell l.plan l.class k (get_or l.row.items k None))
