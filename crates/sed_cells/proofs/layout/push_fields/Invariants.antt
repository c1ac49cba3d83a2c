use Rattle.std.proofs.Common.{◌≡◌, ◌++◌, map, drop}
use Rattle.sed_cells.specs.Layouts.{children, starts, piece_of}
use Rattle.sed_cells.proofs.layout.push_fields.Given as goal

abbrev pub invariant-loop-step : goal.invariant-loop-step
invariant-loop-step l =
    (l.nodes.items ++ children l.parent l.step l.room (map piece_of (drop l.step l.fields)) ≡ l.fn.nodes.items ++ children l.parent 0 l.room (map piece_of l.fields))
    × (l.fresh ++ starts (map piece_of (drop l.step l.fields)) ≡ l.fn.fresh ++ starts (map piece_of l.fields))
