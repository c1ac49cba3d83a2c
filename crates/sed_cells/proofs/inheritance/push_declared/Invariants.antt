use Rattle.std.proofs.Common.{◌≡◌, ◌++◌, drop}
use Rattle.sed_typed.specs.Classes.{declared_fields}
use Rattle.sed_cells.proofs.inheritance.push_declared.Given as goal

abbrev pub invariant-loop-field : goal.invariant-loop-field
invariant-loop-field l = l.all.items ++ declared_fields (drop l.field-index l.fields) l.class ≡ l.fn.all.items ++ declared_fields l.fields l.class
