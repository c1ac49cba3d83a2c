use Rattle.std.proofs.Common.{◌≡◌, ◌++◌, drop}
use Rattle.sed_typed.specs.Classes.{declared_fields}
use Rattle.scode_gen.proofs.class_fields.declared_by.Given as goal

abbrev pub invariant-loop-field : goal.invariant-loop-field
invariant-loop-field l =
    l.own.items ++ declared_fields (drop l.field-index l.fields) l.class ≡ declared_fields l.fields l.class
