use Rattle.std.proofs.Common.{◌≡◌, ◌++◌, ◌-◌, replicate}
use Rattle.sed_cells.specs.Layouts.{children, starts, element_of}
use Rattle.sed_cells.proofs.layout.push_elements.Given as goal

abbrev pub invariant-loop-step : goal.invariant-loop-step
invariant-loop-step l =
    (l.nodes.items ++ children l.parent l.step l.room (replicate (l.count - l.step) (element_of l.prim)) ≡ l.fn.nodes.items ++ children l.parent 0 l.room (replicate l.count (element_of l.prim)))
    × (l.fresh ++ starts (replicate (l.count - l.step) (element_of l.prim)) ≡ l.fn.fresh ++ starts (replicate l.count (element_of l.prim)))
