use Rattle.std.proofs.Common.{◌≡◌, ℕ, ◌++◌, drop, map}
use Rattle.std.specs.Prelude.{slice_index}
use Rattle.std.specs.List.{enumerate_from}
use Rattle.sed_typed.specs.declared.program.Field.{Field}
use Rattle.scode_gen.specs.ImageFields.{fields_placed, image_field}
use Rattle.scode_gen.proofs.image_fields.fields_at.Given as goal

abbrev pub invariant-loop-number : goal.invariant-loop-number
invariant-loop-number l =
    l.placed.items ++ map (λ (at : ℕ × Field). image_field (slice_index l.offsets at.0) at.1.form) (enumerate_from l.number (drop l.number l.all)) ≡ fields_placed (slice_index l.offsets) l.all
