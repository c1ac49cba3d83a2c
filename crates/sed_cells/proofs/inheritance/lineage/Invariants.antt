use Rattle.std.proofs.Common.{◌≡◌, ◌++◌, ◌-◌, length}
use Rattle.sed_typed.specs.Classes.{base_of, reached, lineage}
use Rattle.sed_cells.proofs.inheritance.lineage.Given as goal

abbrev pub invariant-loop-step : goal.invariant-loop-step
invariant-loop-step l = l.line.items ++ reached (base_of l.classes) (length l.classes - l._step) l.at ≡ lineage l.classes l.fn.class
