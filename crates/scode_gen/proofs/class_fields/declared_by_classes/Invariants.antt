use Rattle.std.proofs.Common.{◌≡◌, map}
use Rattle.std.specs.List.{range_with_len}
use Rattle.sed_typed.specs.Classes.{declared_fields}
use Rattle.scode_gen.proofs.class_fields.declared_by_classes.Given as goal

abbrev pub invariant-loop-class : goal.invariant-loop-class
invariant-loop-class l = l.own.items ≡ map (declared_fields l.program.fields) (range_with_len 0 l.class)
