use Rattle.std.proofs.Common.{◌≡◌, map}
use Rattle.std.specs.List.{range_with_len}
use Rattle.scode_gen.specs.ImageFields.{class_fields}
use Rattle.scode_gen.proofs.image_fields.fields_of_classes.Given as goal

abbrev pub invariant-loop-class : goal.invariant-loop-class
invariant-loop-class l = l.rows.items ≡ map (class_fields l.program) (range_with_len 0 l.class)
