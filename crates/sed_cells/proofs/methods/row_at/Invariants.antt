use Rattle.std.proofs.Common.{◌≡◌, map, take}
use Rattle.sed_typed.specs.Classes.{find}
use Rattle.sed_cells.proofs.methods.row_at.Given as goal

abbrev pub invariant-loop-method : goal.invariant-loop-method
invariant-loop-method l = l.row.items ≡ map (λ m. find l.program l.class m.name) (take l.method-index l.method-items)
