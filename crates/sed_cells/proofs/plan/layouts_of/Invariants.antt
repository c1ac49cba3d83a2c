use Rattle.std.proofs.Common.{◌≡◌, ℕ, ◌<◌, length, get_or}
use Rattle.sed_cells.specs.Layouts.{IsLayout}
use Rattle.sed_cells.specs.Places.{stands_at, no_layout}
use Rattle.sed_cells.proofs.plan.layouts_of.Given as goal

abbrev pub invariant-loop-top : goal.invariant-loop-top
invariant-loop-top l =
    (length l.layouts.items ≡ l.top)
    × ((k : ℕ) → k < l.top → IsLayout l.program (stands_at l.program k) (get_or l.layouts.items k no_layout))
