-- The fields of the classes of the image are those of the program, and what is inherited stands where it stood.
use Rattle.std.proofs.Common.{◌≡◌, ℕ, inl, inr, List, [], Some, refl, ap, sym, subst, ◌∙◌}
use Rattle.std.specs.Prelude.{IsTrue, slice_get}
use Rattle.std.proofs.lemmas.Option.{slice_get_cases, slice_get_within}
use Rattle.sed_typed.specs.declared.program.Field.{Field}
use Rattle.sed_typed.specs.declared.program.Program.{Program}
use Rattle.sed_typed.specs.Classes.{fields}
use Rattle.sed_typed.specs.Typed.{Typed}
use Rattle.sed_typed.specs.TypedSchema.{is_below}
use Rattle.sed_layout.specs.Offsets.{KeepsFields, offset_of}
use Rattle.sed_layout.proofs.Inherited.{fields_beyond}
use Rattle.scode_image.specs.declared.image.ImageField.{ImageField}
use Rattle.scode_code.specs.Tables as tables
use Rattle.scode_emit.specs.Rows.{offset_at, room_at}
use Rattle.scode_gen.specs.Generated.{image_layout, image_of}
use Rattle.scode_gen.specs.ImageFields.{class_fields}
use Rattle.scode_sim.specs.Made.{HasFields}
use Rattle.scode_made.specs.Laid.{IsLaid}
use Rattle.scode_made.proofs.MadeFields.{placed_has}
use Rattle.scode_made.proofs.MadeStatics.{stand_apart}
use Rattle.scode_made.proofs.Offsets.{offset_said}
use Rattle.scode_made.proofs.Places.{in_front}
use Rattle.scode_made.proofs.Rows.{fields_at, fields_past, row_at, row_beyond}

-- ---- fields

abbrev Has : Program → ℕ → List ImageField → List ImageField → Type 0
Has program class row made = HasFields (fields program class) (offset_at row) (room_at row) made

-- of no fields nothing is said
none_has : HasFields [] (offset_at []) (room_at []) []
none_has = record {
  forms = refl;
  found = λ i f at. (let never : ⊥ = cc in absurd never);
  bufs = λ i n f at buf. (let never : ⊥ = cc in absurd never);
  strs = λ i n f at str. (let never : ⊥ = cc in absurd never);
  most = λ i n f at buf. (let never : ⊥ = cc in absurd never);
}

pub classes_have : (program : Program) → Typed program → IsLaid program → (class : ℕ) →
    HasFields (fields program class) ((image_layout program).offset class) ((image_layout program).room class) (tables.class_fields (image_of program) class)
classes_have program typed laid class = elim (slice_get_cases program.schema.classes class).1 [
  | inl (info, within, there, same) ↦
      let own : List ImageField = class_fields program class in
      let placed : Has program class own own =
      placed_has (offset_of program class) (fields program class) (stand_apart program (offset_of program class) (fields program class) (laid.wide class) (laid.apart class)) in
      subst (λ (row : List ImageField). Has program class row (tables.class_fields (image_of program) class)) (sym (row_at program (class_fields program) class within))
      (subst (Has program class own) (sym (fields_at program class info there)) placed)
  | inr (past, none) ↦
      let row_none = row_beyond program (class_fields program) class past in
      subst (λ (row : List ImageField). Has program class row (tables.class_fields (image_of program) class)) (sym row_none)
      (subst (Has program class []) (sym (fields_past program class none))
      (subst (λ (all : List Field). HasFields all (offset_at []) (room_at []) []) (sym (fields_beyond program typed class past)) none_has))
]

-- ---- what is inherited

pub inherited_stay : (program : Program) → Typed program → IsLaid program → (above class i : ℕ) (f : Field) →
    IsTrue (is_below program.schema.classes above class) → slice_get (fields program above) i ≡ Some f →
    (image_layout program).offset class i ≡ (image_layout program).offset above i
inherited_stay program typed laid above class i f below at =
    let keeps : KeepsFields program above class = laid.keeps above class below in
    let here : slice_get (fields program class) i ≡ Some f =
    ap (λ (all : List Field). slice_get all i) keeps.first.1 ∙ in_front (fields program above) keeps.first.0 i f at in
    offset_said program typed class i f here
    ∙ keeps.offsets i (slice_get_within (fields program above) i f at)
    ∙ sym (offset_said program typed above i f at)
