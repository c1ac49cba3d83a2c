-- An image that is made of a typed program, whose tables agree: what its classes and fields are to the program's.
use Rattle.std.proofs.Common.{◌≡◌, ◌<◌, ◌≤◌, inr, ℕ, ◌==◌, not, nat_lt, Bool, true, false, if◌then◌else◌, List, length, lt-ltb, ltb-false, ltb-true, Option, Some, None, refl, sym, ap, subst, ◌∙◌, arith}
use Rattle.std.specs.Prelude.{is_some, slice_get}
use Rattle.std.specs.Option.{option_and_then}
use Rattle.std.proofs.lemmas.Bool.{ne_eqb}
use Rattle.sed_typed.specs.declared.kind.Kind.{Kind}
use Rattle.sed_typed.specs.declared.kind.Kind.TheVariants as kind
use Rattle.sed_typed.specs.declared.number.TypeNo.{TypeNo}
use Rattle.sed_typed.specs.declared.program.Field.{Field}
use Rattle.sed_typed.specs.declared.program.FieldForm.{FieldForm}
use Rattle.sed_typed.specs.declared.program.FieldForm.TheVariants as form
use Rattle.sed_typed.specs.declared.program.Method.{Method}
use Rattle.sed_typed.specs.declared.program.Program.{Program}
use Rattle.sed_typed.specs.Classes.{fields}
use Rattle.sed_typed.specs.Typed.{Typed}
use Rattle.sed_typed.specs.TypedExpr.{GoesTo, IsKindOf, IsReference, field_form, part_kind, static_form}
use Rattle.sed_typed.specs.TypedSchema.{IsField, IsForm, is_below}
use Rattle.sed_layout.proofs.Inherited.{fields_beyond, of_fields}
use Rattle.scode_image.specs.declared.image.Image.{Image}
use Rattle.scode_image.specs.declared.image.ImageKind.{ImageKind}
use Rattle.scode_image.specs.declared.image.ImageMethod.{ImageMethod}
use Rattle.scode_code.specs.CodeRules.{lacks_buf, lacks_field, number_missing}
use Rattle.scode_code.specs.Kinds.{goes_to, null, object, statics}
use Rattle.scode_code.specs.Fields.{buf_number}
use Rattle.scode_code.specs.Tables.{class_fields, field_number, schema_of}
use Rattle.scode_code.proofs.Places.{none_some}
use Rattle.scode_code.proofs.Verifies.{goes_to_itself}
use Rattle.scode_ops.specs.declared.op.Op.TheVariants as op
use Rattle.scode_emit.specs.Site.{Layout, class_of}
use Rattle.scode_entries.specs.Entries.{cell_of}
use Rattle.scode_entries.specs.Method.{image_method}
use Rattle.scode_sim.specs.Made.{IsMade, number_of_form, room_of_form}
use Rattle.scode_sim.proofs.Objects.{field_of}
use Rattle.scode_made.proofs.Places.{all_at}
use Rattle.scode_sound.proofs.Rules.{Tables}
use Rattle.scode_fine.proofs.FieldOps.{IsHolder}
use Rattle.scode_fine.proofs.Goings.{Null, Under, goes_seen}
use Rattle.scode_fine.proofs.Orders.{classes_of, in_image}

-- what is known of the image of a typed program
pub record Known (program : Program) (layout : Layout) (image : Image) : Type 0 where
  pub typed : Typed program
  pub few : length (classes_of program) ≤ 1024
  pub schema : schema_of image ≡ program.schema
  pub tables : Tables image
  pub made : IsMade program layout image
  pub methods : (n : ℕ) (m : Method) → slice_get program.methods n ≡ Some m →
      slice_get image.methods n ≡ Some (image_method program layout m)
  pub classes : length image.classes ≡ length (classes_of program)

no_statics : (n most : ℕ) → n < most → most ≤ 1024 → (n == 0xffff) ≡ false
no_statics n most less few = ne_eqb n 0xffff (λ same. omega (arith, same, less, few))

-- ---- forms

pub parted : (o : Option FieldForm) (l : Kind) → option_and_then part_kind o ≡ Some l → (fm : FieldForm) × (o ≡ Some fm) × (part_kind fm ≡ Some l)
parted None l e = absurd (none_some l e)
parted (Some fm) l e = (fm, refl, e)

module _ (program : Program) (layout : Layout) (image : Image) (known : Known program layout image) where
  -- ---- kinds

  same_goes : (l k : Kind) → l ≡ k → goes_to image (cell_of l) (cell_of k) ≡ true
  same_goes l k e = subst (λ (x : Kind). goes_to image (cell_of l) (cell_of x) ≡ true) e (goes_to_itself image (cell_of l))

  pub class_goes : (above class : ℕ) → is_below (classes_of program) above class ≡ true → goes_to image (object class) (object above) ≡ true
  class_goes above class h =
      goes_seen image (object class) (object above)
      (Under refl refl (in_image program known.typed known.few image known.schema known.tables above class h))

  pub cell_goes : (l k : Kind) → GoesTo program l k → goes_to image (cell_of l) (cell_of k) ≡ true
  cell_goes kind.Void k h = same_goes kind.Void k h
  cell_goes kind.Bool k h = same_goes kind.Bool k h
  cell_goes kind.Int k h = same_goes kind.Int k h
  cell_goes kind.Long k h = same_goes kind.Long k h
  cell_goes kind.Text k h = same_goes kind.Text k h
  cell_goes (kind.Object c) kind.Void h = same_goes (kind.Object c) kind.Void h
  cell_goes (kind.Object c) kind.Bool h = same_goes (kind.Object c) kind.Bool h
  cell_goes (kind.Object c) kind.Int h = same_goes (kind.Object c) kind.Int h
  cell_goes (kind.Object c) kind.Long h = same_goes (kind.Object c) kind.Long h
  cell_goes (kind.Object c) kind.Text h = same_goes (kind.Object c) kind.Text h
  cell_goes (kind.Object c) (kind.Object d) h = class_goes d.0 c.0 h

  pub null_goes : (k : Kind) → IsReference k → IsKindOf program k → goes_to image null (cell_of k) ≡ true
  null_goes kind.Void r h = absurd r
  null_goes kind.Bool r h = absurd r
  null_goes kind.Int r h = absurd r
  null_goes kind.Long r h = absurd r
  null_goes kind.Text r h = refl
  null_goes (kind.Object class) r h =
      goes_seen image null (object class.0)
      (Null refl (inr (refl, no_statics class.0 (length (classes_of program)) h known.few)))

  -- ---- fields of objects

  with_field : (class i : ℕ) (f : Field) → slice_get (fields program class) i ≡ Some f → class < length (classes_of program)
  with_field class i f at = by_test (nat_lt class (length (classes_of program))) refl
    where
      by_test : (b : Bool) → nat_lt class (length (classes_of program)) ≡ b → class < length (classes_of program)
      by_test true is = ltb-true class (length (classes_of program)) is
      by_test false is =
          let past : length (classes_of program) ≤ class = ltb-false class (length (classes_of program)) is in
          absurd (none_some f (sym (ap (λ (all : List Field). slice_get all i) (fields_beyond program known.typed class past)) ∙ at))

  -- a field that is there, of a kind that is that of objects of its class
  pub record FieldAt (k : Kind) (i : ℕ) (fm : FieldForm) : Type 0 where
    pub field : Field
    pub at : slice_get (fields program (class_of k)) i ≡ Some field
    pub is : field.form ≡ fm
    pub cell : cell_of k ≡ object (class_of k)
    pub within : class_of k < length (classes_of program)

  pub field_at : (k : Kind) (i : ℕ) (fm : FieldForm) → field_form program k i ≡ Some fm → FieldAt k i fm
  field_at kind.Void i fm e = absurd (none_some fm e)
  field_at kind.Bool i fm e = absurd (none_some fm e)
  field_at kind.Int i fm e = absurd (none_some fm e)
  field_at kind.Long i fm e = absurd (none_some fm e)
  field_at kind.Text i fm e = absurd (none_some fm e)
  field_at (kind.Object class) i fm e =
      let f = field_of (fields program class.0) i fm e in
      record { field = f.0; at = f.1; is = f.2; cell = refl; within = with_field class.0 i f.0 f.1 }

  pub held : (k : Kind) (i : ℕ) (fm : FieldForm) → FieldAt k i fm → IsHolder (cell_of k)
  held k i fm f = subst IsHolder (sym f.cell) refl

  -- it is found by its form, its offset and its n
  lacks_none : (class sort offset n i : ℕ) → class < length (classes_of program) →
      field_number (class_fields image class) sort offset n ≡ Some i → lacks_field image (Some (object class)) sort offset n ≡ false
  lacks_none class sort offset n i within found =
      ap (λ (b : Bool). not (is_some (field_number (if b then image.static_fields else class_fields image class) sort offset n)))
      (no_statics class (length (classes_of program)) within known.few)
      ∙ ap (λ (o : Option ℕ). not (is_some o)) found

  pub field_there : (k : Kind) (i : ℕ) (fm : FieldForm) → FieldAt k i fm →
      lacks_field image (Some (cell_of k)) (number_of_form fm) (layout.offset (class_of k) i) (room_of_form fm) ≡ false
  field_there k i fm f =
      let number : field_number (class_fields image (class_of k)) (number_of_form fm) (layout.offset (class_of k) i) (room_of_form fm) ≡ Some i =
      subst (λ (x : FieldForm). field_number (class_fields image (class_of k)) (number_of_form x) (layout.offset (class_of k) i) (room_of_form x) ≡ Some i)
      f.is ((known.made.fields_of (class_of k)).found i f.field f.at) in
      subst (λ (x : ImageKind). lacks_field image (Some x) (number_of_form fm) (layout.offset (class_of k) i) (room_of_form fm) ≡ false) (sym f.cell)
      (lacks_none (class_of k) (number_of_form fm) (layout.offset (class_of k) i) (room_of_form fm) i f.within number)

  pub buf_there : (k : Kind) (i n : ℕ) → FieldAt k i (form.Buf n) → lacks_buf image (Some (cell_of k)) (layout.offset (class_of k) i) ≡ false
  buf_there k i n f =
      subst (λ (x : ImageKind). lacks_buf image (Some x) (layout.offset (class_of k) i) ≡ false) (sym f.cell)
      (ap (λ (b : Bool). not (is_some (buf_number (if b then image.static_fields else class_fields image (class_of k)) (layout.offset (class_of k) i))))
      (no_statics (class_of k) (length (classes_of program)) f.within known.few)
      ∙ ap (λ (o : Option ℕ). not (is_some o)) ((known.made.fields_of (class_of k)).bufs i n f.field f.at f.is))

  pub buf_room : (k : Kind) (i n : ℕ) → FieldAt k i (form.Buf n) → layout.room (class_of k) i ≡ n
  buf_room k i n f = (known.made.fields_of (class_of k)).most i n f.field f.at f.is

  pub str_room : (k : Kind) (i n : ℕ) → FieldAt k i (form.Str n) → layout.room (class_of k) i ≡ n
  str_room k i n f = (known.made.fields_of (class_of k)).strs i n f.field f.at f.is

  -- the class of an inline object is there
  inner_class : (t : ℕ) → t < length (classes_of program) → (m : ImageMethod) (offset : ℕ) → number_missing image m (op.Inner offset t) ≡ false
  inner_class t within m offset =
      let same = known.classes in ap not (lt-ltb t (length image.classes) (omega (arith, within, same)))

  pub field_class : (k : Kind) (i : ℕ) (t : TypeNo) → FieldAt k i (form.Object t) → (m : ImageMethod) (offset : ℕ) →
      number_missing image m (op.Inner offset t.0) ≡ false
  field_class k i t f m offset =
      let all = of_fields (IsField program) program known.typed.fields (class_of k) in
      let fine : IsField program f.field = all_at (IsField program) (fields program (class_of k)) i f.field f.at all in
      let formed : IsForm program f.field (form.Object t) = subst (λ (x : FieldForm). IsForm program f.field x) f.is fine.form in
      inner_class t.0 formed.0 m offset

  -- ---- statics

  pub record StaticAt (i : ℕ) (fm : FieldForm) : Type 0 where
    pub field : Field
    pub at : slice_get program.statics i ≡ Some field
    pub is : field.form ≡ fm

  pub static_at : (i : ℕ) (fm : FieldForm) → static_form program i ≡ Some fm → StaticAt i fm
  static_at i fm e = let f = field_of program.statics i fm e in record { field = f.0; at = f.1; is = f.2 }

  pub static_there : (i : ℕ) (fm : FieldForm) → StaticAt i fm →
      lacks_field image (Some statics) (number_of_form fm) (layout.static_offset i) (room_of_form fm) ≡ false
  static_there i fm f =
      let number : field_number image.static_fields (number_of_form fm) (layout.static_offset i) (room_of_form fm) ≡ Some i =
      subst (λ (x : FieldForm). field_number image.static_fields (number_of_form x) (layout.static_offset i) (room_of_form x) ≡ Some i)
      f.is (known.made.statics.found i f.field f.at) in
      ap (λ (o : Option ℕ). not (is_some o)) number

  pub static_str_room : (i n : ℕ) → StaticAt i (form.Str n) → layout.static_room i ≡ n
  static_str_room i n f = known.made.statics.strs i n f.field f.at f.is

  pub static_class : (i : ℕ) (t : TypeNo) → StaticAt i (form.Object t) → (m : ImageMethod) (offset : ℕ) →
      number_missing image m (op.Inner offset t.0) ≡ false
  static_class i t f m offset =
      let fine : IsField program f.field = all_at (IsField program) program.statics i f.field f.at known.typed.statics in
      let formed : IsForm program f.field (form.Object t) = subst (λ (x : FieldForm). IsForm program f.field x) f.is fine.form in
      inner_class t.0 formed.0 m offset
