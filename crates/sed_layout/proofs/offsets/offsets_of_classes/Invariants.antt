use Rattle.std.proofs.Common.{◌≡◌, ◌-◌, ◌≤◌, drop, length, map}
use Rattle.std.specs.List.{flat_map, range_with_len}
use Rattle.sed_typed.specs.Classes.{declared_fields}
use Rattle.sed_layout.specs.Offsets.{offsets_of}
use Rattle.sed_layout.proofs.offsets.offsets_of_classes.Given as goal

abbrev pub invariant-loop-class : goal.invariant-loop-class
invariant-loop-class l =
    (l.all.items ≡ map (offsets_of l.program) (range_with_len 0 l.class))
    × (l.done ≤ length l.program.fields)
    × (drop l.done l.program.fields ≡ flat_map (declared_fields l.program.fields) (range_with_len l.class (length l.program.schema.classes - l.class)))
