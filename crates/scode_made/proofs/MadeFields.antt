-- Fields that stand at offsets of which no two are the same have what the compiler's law asks of fields.
use Rattle.std.proofs.Common.{◌≡◌, ℕ, ◌<◌, ◌==◌, ◌&&◌, true, List, Option, Some, None, refl, ap, sym, ◌∙◌, arith}
use Rattle.std.specs.Prelude.{slice_get}
use Rattle.std.specs.Option.{option_map, option_map_or}
use Rattle.std.proofs.lemmas.Bool.Decides.{nat_tests}
use Rattle.std.proofs.lemmas.Option.{same_Some}
use Rattle.sed_value.specs.declared.slot_type.Primitive.TheVariants as prim
use Rattle.sed_typed.specs.declared.program.Field.{Field}
use Rattle.sed_typed.specs.declared.program.FieldForm.{FieldForm}
use Rattle.sed_typed.specs.declared.program.FieldForm.TheVariants as form
use Rattle.scode_image.specs.declared.image.ImageField.{ImageField}
use Rattle.scode_code.specs.Fields.{buf_number}
use Rattle.scode_code.specs.Tables.{field_number, is_field}
use Rattle.scode_emit.specs.Rows.{offset_at, room_at}
use Rattle.scode_gen.specs.ImageFields.{fields_placed, image_field}
use Rattle.scode_sim.specs.Made.{HasFields, number_of_form, room_of_form}
use Rattle.scode_made.proofs.PlacedFields.{forms_are, found_first, placed_at}

pub offset_is : (offset : ℕ) (f : FieldForm) → (image_field offset f).offset ≡ offset
offset_is offset (form.Prim p) = refl
offset_is offset (form.Str n) = refl
offset_is offset (form.Buf n) = refl
offset_is offset (form.Object class) = refl
offset_is offset (form.Array p n) = refl

n_is : (offset : ℕ) (f : FieldForm) → (image_field offset f).n ≡ room_of_form f
n_is offset (form.Prim p) = refl
n_is offset (form.Str n) = refl
n_is offset (form.Buf n) = refl
n_is offset (form.Object class) = refl
n_is offset (form.Array p n) = refl

number_is : (offset : ℕ) (f : FieldForm) → (image_field offset f).form ≡ number_of_form f
number_is offset (form.Prim prim.Bool) = refl
number_is offset (form.Prim prim.Byte) = refl
number_is offset (form.Prim prim.Short) = refl
number_is offset (form.Prim prim.Int) = refl
number_is offset (form.Prim prim.Long) = refl
number_is offset (form.Str n) = refl
number_is offset (form.Buf n) = refl
number_is offset (form.Object class) = refl
number_is offset (form.Array prim.Bool n) = refl
number_is offset (form.Array prim.Byte n) = refl
number_is offset (form.Array prim.Short n) = refl
number_is offset (form.Array prim.Int n) = refl
number_is offset (form.Array prim.Long n) = refl

-- two that are there stand at two offsets
abbrev pub StandApart : (ℕ → ℕ) → List Field → Type 0
StandApart offset all = (k i : ℕ) (f g : Field) → k < i → slice_get all k ≡ Some f → slice_get all i ≡ Some g → offset k < offset i

module _ (offset : ℕ → ℕ) (all : List Field) (i : ℕ) (f : Field) (at : slice_get all i ≡ Some f) where
  placed : slice_get (fields_placed offset all) i ≡ Some (image_field (offset i) f.form)
  placed = placed_at offset i all ∙ ap (option_map (λ (g : Field). image_field (offset i) g.form)) at

  pub offset_there : offset_at (fields_placed offset all) i ≡ offset i
  offset_there = ap (λ (o : Option ImageField). option_map_or (λ x. x.offset) o 0) placed ∙ offset_is (offset i) f.form

  pub room_there : room_at (fields_placed offset all) i ≡ room_of_form f.form
  room_there = ap (λ (o : Option ImageField). option_map_or (λ x. x.n) o 0) placed ∙ n_is (offset i) f.form

  -- none before it stands at its offset
  before : StandApart offset all → (k : ℕ) (y : ImageField) → k < i → slice_get (fields_placed offset all) k ≡ Some y → y.offset < offset i
  before apart k y lt is = by_field (slice_get all k) refl
    where
      by_field : (o : Option Field) → slice_get all k ≡ o → y.offset < offset i
      by_field None e =
          let gone : None ≡ Some y = sym (ap (option_map (λ (g : Field). image_field (offset k) g.form)) e) ∙ sym (placed_at offset k all) ∙ is in
          let never : ⊥ = cc in absurd never
      by_field (Some g) e =
          let same : image_field (offset k) g.form ≡ y = same_Some (image_field (offset k) g.form) y (sym (ap (option_map (λ (h : Field). image_field (offset k) h.form)) e) ∙ sym (placed_at offset k all) ∙ is) in
          let its : y.offset ≡ offset k = ap (λ (x : ImageField). x.offset) (sym same) ∙ offset_is (offset k) g.form in
          let less : offset k < offset i = apart k i g f lt e at in
          omega (arith, its, less)

  passes : is_field (number_of_form f.form) (offset i) (room_of_form f.form) (image_field (offset i) f.form) ≡ true
  passes = grind (arith, nat_tests, number_is (offset i) f.form, offset_is (offset i) f.form, n_is (offset i) f.form)

  pub found : StandApart offset all → field_number (fields_placed offset all) (number_of_form f.form) (offset i) (room_of_form f.form) ≡ Some i
  found apart =
      found_first (is_field (number_of_form f.form) (offset i) (room_of_form f.form)) i (fields_placed offset all) (image_field (offset i) f.form) placed passes
      (λ k y lt is. let less = before apart k y lt is in grind (arith, nat_tests, less))

  buf_found : StandApart offset all → (n : ℕ) → f.form ≡ form.Buf n → buf_number (fields_placed offset all) (offset i) ≡ Some i
  buf_found apart n buf =
      let seven : (image_field (offset i) f.form).form ≡ 7 = number_is (offset i) f.form ∙ ap number_of_form buf in
      found_first (λ (x : ImageField). (x.form == 7) && (x.offset == offset i)) i (fields_placed offset all) (image_field (offset i) f.form) placed
      (grind (arith, nat_tests, seven, offset_is (offset i) f.form))
      (λ k y lt is. let less = before apart k y lt is in grind (arith, nat_tests, less))

pub placed_has : (offset : ℕ → ℕ) (all : List Field) → StandApart offset all →
    HasFields all (offset_at (fields_placed offset all)) (room_at (fields_placed offset all)) (fields_placed offset all)
placed_has offset all apart = record {
  forms = forms_are offset all;
  found = λ i f at. ap (λ (k : ℕ). field_number (fields_placed offset all) (number_of_form f.form) k (room_of_form f.form)) (offset_there offset all i f at) ∙ found offset all i f at apart;
  bufs = λ i n f at buf. ap (buf_number (fields_placed offset all)) (offset_there offset all i f at) ∙ buf_found offset all i f at apart n buf;
  strs = λ i n f at str. room_there offset all i f at ∙ ap room_of_form str;
  most = λ i n f at buf. room_there offset all i f at ∙ ap room_of_form buf;
}
