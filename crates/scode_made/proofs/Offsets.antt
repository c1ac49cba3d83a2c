-- Where the layout of an image says that a field of a class lies.
use Rattle.std.proofs.Common.{◌≡◌, ℕ, ◌<◌, inl, inr, List, length, Some, None, ap, sym, ◌∙◌}
use Rattle.std.specs.Prelude.{slice_get}
use Rattle.std.proofs.lemmas.Option.{slice_get_cases}
use Rattle.sed_typed.specs.declared.program.Field.{Field}
use Rattle.sed_typed.specs.declared.program.Program.{Program}
use Rattle.sed_typed.specs.Classes.{fields}
use Rattle.sed_typed.specs.Typed.{Typed}
use Rattle.sed_layout.specs.Offsets.{offset_of}
use Rattle.sed_layout.proofs.Inherited.{fields_beyond}
use Rattle.scode_image.specs.declared.image.ImageField.{ImageField}
use Rattle.scode_emit.specs.Rows.{offset_at}
use Rattle.scode_gen.specs.Generated.{image_layout}
use Rattle.scode_gen.specs.ImageFields.{class_fields}
use Rattle.scode_made.proofs.MadeFields.{offset_there}
use Rattle.scode_made.proofs.Rows.{row_at}

-- a class that has a field is there
with_field : (program : Program) → Typed program → (class i : ℕ) (f : Field) → slice_get (fields program class) i ≡ Some f → class < length program.schema.classes
with_field program typed class i f at = elim (slice_get_cases program.schema.classes class).1 [
  | inl (info, within, there, same) ↦ within
  | inr (past, none) ↦
      let gone : None ≡ Some f = sym (ap (λ (all : List Field). slice_get all i) (fields_beyond program typed class past)) ∙ at in
      let never : ⊥ = cc in absurd never
]

pub offset_said : (program : Program) → Typed program → (class i : ℕ) (f : Field) → slice_get (fields program class) i ≡ Some f →
    (image_layout program).offset class i ≡ offset_of program class i
offset_said program typed class i f at =
    ap (λ (row : List ImageField). offset_at row i) (row_at program (class_fields program) class (with_field program typed class i f at))
    ∙ offset_there (offset_of program class) (fields program class) i f at
