use Rattle.std.proofs.Common.{◌≡◌, take}
use Rattle.std.specs.List.{flat_map}
use Rattle.sed_typed.specs.Classes.{declared_fields}
use Rattle.sed_cells.proofs.inheritance.fields_of.Given as goal

abbrev pub invariant-loop-class : goal.invariant-loop-class
invariant-loop-class l = l.all.items ≡ flat_map (declared_fields l.program.fields) (take l.class-index l.class-items)
