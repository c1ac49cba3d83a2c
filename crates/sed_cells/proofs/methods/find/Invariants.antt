use Rattle.std.proofs.Common.{◌≡◌, ◌-◌, length}
use Rattle.sed_typed.specs.Classes.{base_of, reached, first_found, declared_method, find}
use Rattle.sed_cells.proofs.methods.find.Given as goal

abbrev pub invariant-loop-step : goal.invariant-loop-step
invariant-loop-step l = first_found (declared_method l.program.methods l.name) (reached (base_of l.classes) (length l.classes - l._step) l.at) ≡ find l.program l.fn.class l.name
