-- The fields of the image are of forms that may be, and lie apart from one another within the data.
use Rattle.std.proofs.Common.{◌≡◌, ℕ, suc, ◌+◌, ◌<◌, ◌≤◌, ◌==◌, ◌||◌, true, false, not, nat_le, nat_lt, inl, inr}
use Rattle.std.proofs.Common.{List, [], ◌∷◌, length, Option, Some, refl, ap, sym, ◌∙◌, arith}
use Rattle.std.specs.Prelude.{All, slice_get}
use Rattle.std.specs.List.{list_all}
use Rattle.std.specs.Option.{option_and_then, option_map_or}
use Rattle.std.proofs.lemmas.Bool.{and_from, le-leb, lt-ltb, or_left}
use Rattle.std.proofs.lemmas.Option.{slice_get_cases}
use Rattle.sed_value.specs.declared.slot_type.Primitive.TheVariants as prim
use Rattle.sed_typed.specs.declared.program.Field.{Field}
use Rattle.sed_typed.specs.declared.program.FieldForm.{FieldForm}
use Rattle.sed_typed.specs.declared.program.FieldForm.TheVariants as form
use Rattle.sed_typed.specs.declared.program.Program.{Program}
use Rattle.sed_typed.specs.declared.schema.ClassInfo.{ClassInfo}
use Rattle.sed_typed.specs.Classes.{fields}
use Rattle.sed_typed.specs.Sizes.{data_size, form_size}
use Rattle.sed_typed.specs.SysTypes.{component_type}
use Rattle.sed_typed.specs.TypedSchema.{IsField, IsForm, is_abstract, is_below_sys}
use Rattle.sed_layout.specs.Offsets.{field_width}
use Rattle.scode_image.specs.declared.image.Image.{Image}
use Rattle.scode_image.specs.declared.image.ImageClass.{ImageClass}
use Rattle.scode_image.specs.declared.image.ImageField.{ImageField}
use Rattle.scode_code.specs.TableRules as rule
use Rattle.scode_code.specs.TableRules.{all_apart, are_apart, fields_lie_apart, has_class, is_abstract_class}
use Rattle.scode_code.specs.TableRules.{is_component, may_be_inline, n_is_of_form, none_or, object_fields_are_there}
use Rattle.scode_code.specs.TableRules.{objects_may_be_inline}
use Rattle.scode_gen.specs.Classes.{image_class}
use Rattle.scode_gen.specs.FirstBytes.{first_bytes}
use Rattle.scode_gen.specs.Generated.{image_of}
use Rattle.scode_gen.specs.ImageFields.{fields_placed, image_field}
use Rattle.scode_made.proofs.FirstBytes.{first_many}
use Rattle.scode_made.proofs.MadeFields.{offset_is}
use Rattle.scode_made.proofs.Places.{all_at}
use Rattle.scode_made.proofs.Rows.{class_at}
use Rattle.scode_agree.proofs.Given.{IsGiven}
use Rattle.scode_agree.proofs.Infos.{class_known, class_there, told_back}
use Rattle.scode_agree.proofs.Tests.{each_passes, made_of, numbered_pass, three}

-- fields of which each two that are there lie apart
apart_by : (image : Image) (xs : List ImageField) →
    ((i j : ℕ) (x y : ImageField) → slice_get xs i ≡ Some x → slice_get xs j ≡ Some y → i < j
    → are_apart image x y ≡ true) → all_apart image xs ≡ true
apart_by image [] h = refl
apart_by image (x ∷ xs) h =
    and_from (list_all (are_apart image x) xs) (all_apart image xs)
    (each_passes (are_apart image x) xs (λ j y at. h 0 (suc j) x y refl at (omega arith)))
    (apart_by image xs (λ i j y z first second lt. h (suc i) (suc j) y z first second (omega (arith, lt))))

-- Fields at offsets in data of a size.
pub record AreLaid (program : Program) (offset : ℕ → ℕ) (all : List Field) (size : ℕ) : Type 0 where
  pub known : All (IsField program) all
  pub within : (i : ℕ) (f : Field) → slice_get all i ≡ Some f → offset i + field_width program f ≤ size
  pub apart : (i j : ℕ) (f : Field) → slice_get all i ≡ Some f → i < j → offset i + field_width program f ≤ offset j

module _ (program : Program) (is : IsGiven program) where
  -- ---- objects

  object_there : (y : Field) (f : FieldForm) (o : ℕ) → IsForm program y f →
      (not ((image_field o f).form == 8) || has_class (image_of program) (image_field o f).n) ≡ true
  object_there y (form.Prim prim.Bool) o h = refl
  object_there y (form.Prim prim.Byte) o h = refl
  object_there y (form.Prim prim.Short) o h = refl
  object_there y (form.Prim prim.Int) o h = refl
  object_there y (form.Prim prim.Long) o h = refl
  object_there y (form.Str n) o h = refl
  object_there y (form.Buf n) o h = refl
  object_there y (form.Object t) o h = class_there program t.0 h.0
  object_there y (form.Array prim.Bool n) o h = refl
  object_there y (form.Array prim.Byte n) o h = refl
  object_there y (form.Array prim.Short n) o h = refl
  object_there y (form.Array prim.Int n) o h = refl
  object_there y (form.Array prim.Long n) o h = refl

  -- a class with fields has data
  some_data : (t : ℕ) → 0 < length (fields program t) → 0 < data_size program t
  some_data t h = elim (slice_get_cases (fields program t) 0).1 [
    | inl (f, lt, at, same) ↦
        let inside = is.laid.within t 0 f at in
        let wide : 0 < field_width program f =
        all_at (λ (x : Field). 0 < field_width program x) (fields program t) 0 f at (is.laid.wide t) in
        omega (arith, inside, wide)
    | inr (past, none) ↦ absurd (omega (arith, past, h))
  ]

  may_be : (t : ℕ) (info : ClassInfo) → slice_get program.schema.classes t ≡ Some info
      → is_abstract program.schema.classes t ≡ false →
      is_below_sys program.schema.classes component_type t ≡ false → 0 < length (fields program t)
      → may_be_inline (image_class program t info) ≡ true
  may_be t info there concrete apart some =
      let own = image_class program t info in
      let told = told_back program is.typed is.laid.few_classes t info there in
      let not_abstract : is_abstract_class own ≡ false =
      ap (λ (x : ClassInfo). x.is_abstract) told
      ∙ sym (ap (λ (o : Option ClassInfo). option_map_or (λ (c : ClassInfo). c.is_abstract) o false) there)
      ∙ concrete in
      let no_component : is_component own ≡ false =
      ap (λ (x : ClassInfo). x.is_component) told ∙ (class_known program is.typed t info there).component ∙ apart in
      let taken = some_data t some in
      let many = first_many program is.typed t in
      three (not (is_abstract_class own)) (not (is_component own)) (nat_lt 0 (length (first_bytes program t)))
      (ap not not_abstract) (ap not no_component)
      (lt-ltb 0 (length (first_bytes program t)) (omega (arith, taken, many)))

  inline_there : (t : ℕ) → t < length program.schema.classes → is_abstract program.schema.classes t ≡ false →
      is_below_sys program.schema.classes component_type t ≡ false → 0 < length (fields program t) →
      none_or (option_and_then (λ (c : ImageClass). Some (may_be_inline c))
      (slice_get (image_of program).classes t)) ≡ true
  inline_there t h concrete apart some = elim (slice_get_cases program.schema.classes t).1 [
    | inl (info, within, there, same) ↦
        ap (λ (o : Option ImageClass). none_or (option_and_then (λ (c : ImageClass). Some (may_be_inline c)) o))
        (class_at program t info there)
        ∙ may_be t info there concrete apart some
    | inr (past, none) ↦ absurd (omega (arith, past, h))
  ]

  inline_at : (y : Field) (f : FieldForm) (o : ℕ) → IsForm program y f →
      (not ((image_field o f).form == 8) || none_or
      (option_and_then (λ (c : ImageClass). Some (may_be_inline c))
      (slice_get (image_of program).classes (image_field o f).n))) ≡ true
  inline_at y (form.Prim prim.Bool) o h = refl
  inline_at y (form.Prim prim.Byte) o h = refl
  inline_at y (form.Prim prim.Short) o h = refl
  inline_at y (form.Prim prim.Int) o h = refl
  inline_at y (form.Prim prim.Long) o h = refl
  inline_at y (form.Str n) o h = refl
  inline_at y (form.Buf n) o h = refl
  inline_at y (form.Object t) o h = inline_there t.0 h.0 h.1 h.2 h.3
  inline_at y (form.Array prim.Bool n) o h = refl
  inline_at y (form.Array prim.Byte n) o h = refl
  inline_at y (form.Array prim.Short n) o h = refl
  inline_at y (form.Array prim.Int n) o h = refl
  inline_at y (form.Array prim.Long n) o h = refl

  -- ---- sizes

  formed : (y : Field) (f : FieldForm) (o : ℕ) → IsForm program y f → n_is_of_form (image_field o f) ≡ true
  formed y (form.Prim prim.Bool) o h = refl
  formed y (form.Prim prim.Byte) o h = refl
  formed y (form.Prim prim.Short) o h = refl
  formed y (form.Prim prim.Int) o h = refl
  formed y (form.Prim prim.Long) o h = refl
  formed y (form.Str n) o h = and_from (nat_le 1 n) (nat_le n 255) (le-leb 1 n h.0) (le-leb n 255 h.1)
  formed y (form.Buf n) o h = and_from (nat_le 1 n) (nat_le n 128) (le-leb 1 n h.0) (le-leb n 128 h.1)
  formed y (form.Object t) o h = refl
  formed y (form.Array prim.Bool n) o h = le-leb 1 n h.0
  formed y (form.Array prim.Byte n) o h = le-leb 1 n h.0
  formed y (form.Array prim.Short n) o h = le-leb 1 n h.0
  formed y (form.Array prim.Int n) o h = le-leb 1 n h.0
  formed y (form.Array prim.Long n) o h = le-leb 1 n h.0

  object_width : (t : ℕ) → t < length program.schema.classes
      → option_map_or (λ (c : ImageClass). length c.contents)
      (slice_get (image_of program).classes t) 0 ≡ data_size program t
  object_width t h = elim (slice_get_cases program.schema.classes t).1 [
    | inl (info, within, there, same) ↦
        ap (λ (o : Option ImageClass). option_map_or (λ (c : ImageClass). length c.contents) o 0)
        (class_at program t info there) ∙ first_many program is.typed t
    | inr (past, none) ↦ absurd (omega (arith, past, h))
  ]

  width_is : (y : Field) (f : FieldForm) (o : ℕ) → IsForm program y f
      → rule.field_width (image_of program) (image_field o f) ≡ form_size (data_size program) f
  width_is y (form.Prim prim.Bool) o h = refl
  width_is y (form.Prim prim.Byte) o h = refl
  width_is y (form.Prim prim.Short) o h = refl
  width_is y (form.Prim prim.Int) o h = refl
  width_is y (form.Prim prim.Long) o h = refl
  width_is y (form.Str n) o h = refl
  width_is y (form.Buf n) o h = refl
  width_is y (form.Object t) o h = object_width t.0 h.0
  width_is y (form.Array prim.Bool n) o h = refl
  width_is y (form.Array prim.Byte n) o h = refl
  width_is y (form.Array prim.Short n) o h = refl
  width_is y (form.Array prim.Int n) o h = refl
  width_is y (form.Array prim.Long n) o h = refl

  -- ---- of all

  module _ (offset : ℕ → ℕ) (all : List Field) (size : ℕ) (laid : AreLaid program offset all size) where
    form_at : (i : ℕ) (f : Field) → slice_get all i ≡ Some f → IsForm program f f.form
    form_at i f at = (all_at (IsField program) all i f at laid.known).form

    pub objects_there : object_fields_are_there (image_of program) (fields_placed offset all) ≡ true
    objects_there =
        numbered_pass (λ (i : ℕ) (f : Field). image_field (offset i) f.form)
        (λ (f : ImageField). not (f.form == 8) || has_class (image_of program) f.n) all
        (λ i f at. object_there f f.form (offset i) (form_at i f at))

    pub objects_inline : objects_may_be_inline (image_of program) (fields_placed offset all) ≡ true
    objects_inline =
        numbered_pass (λ (i : ℕ) (f : Field). image_field (offset i) f.form)
        (λ (f : ImageField). not (f.form == 8) || none_or
        (option_and_then (λ (c : ImageClass). Some (may_be_inline c)) (slice_get (image_of program).classes f.n))) all
        (λ i f at. inline_at f f.form (offset i) (form_at i f at))

    pub all_formed : list_all n_is_of_form (fields_placed offset all) ≡ true
    all_formed =
        numbered_pass (λ (i : ℕ) (f : Field). image_field (offset i) f.form) n_is_of_form all
        (λ i f at. formed f f.form (offset i) (form_at i f at))

    all_within : list_all (λ (f : ImageField). nat_le (f.offset + rule.field_width (image_of program) f) size)
        (fields_placed offset all) ≡ true
    all_within =
        numbered_pass (λ (i : ℕ) (f : Field). image_field (offset i) f.form)
        (λ (f : ImageField). nat_le (f.offset + rule.field_width (image_of program) f) size) all
        (λ i f at.
        let x : ImageField = image_field (offset i) f.form in
        let begins : x.offset ≡ offset i = offset_is (offset i) f.form in
        let wide : rule.field_width (image_of program) x ≡ field_width program f =
        width_is f f.form (offset i) (form_at i f at) in
        let inside = laid.within i f at in
        le-leb (x.offset + rule.field_width (image_of program) x) size (omega (arith, begins, wide, inside)))

    pub lie_apart : fields_lie_apart (image_of program) size (fields_placed offset all) ≡ true
    lie_apart =
        and_from (list_all (λ (f : ImageField). nat_le (f.offset + rule.field_width (image_of program) f) size)
        (fields_placed offset all))
        (all_apart (image_of program) (fields_placed offset all)) all_within
        (apart_by (image_of program) (fields_placed offset all)
        (λ i j x y first second lt.
        let one = made_of (λ (k : ℕ) (f : Field). image_field (offset k) f.form) all i x first in
        let two = made_of (λ (k : ℕ) (f : Field). image_field (offset k) f.form) all j y second in
        let begins : x.offset ≡ offset i =
        ap (λ (z : ImageField). z.offset) (sym one.made) ∙ offset_is (offset i) one.source.form in
        let further : y.offset ≡ offset j =
        ap (λ (z : ImageField). z.offset) (sym two.made) ∙ offset_is (offset j) two.source.form in
        let wide : rule.field_width (image_of program) x ≡ field_width program one.source =
        ap (rule.field_width (image_of program)) (sym one.made)
        ∙ width_is one.source one.source.form (offset i) (form_at i one.source one.there) in
        let behind = laid.apart i j one.source one.there lt in
        or_left (nat_le (x.offset + rule.field_width (image_of program) x) y.offset)
        (nat_le (y.offset + rule.field_width (image_of program) y) x.offset)
        (le-leb (x.offset + rule.field_width (image_of program) x) y.offset
        (omega (arith, begins, further, wide, behind)))))
