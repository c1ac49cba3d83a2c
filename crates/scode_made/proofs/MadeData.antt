-- The image tells the shapes and sizes of the program's data, and the fields of its properties.
use Rattle.std.proofs.Common.{◌≡◌, ℕ, suc, ◌+◌, ◌<◌, Bool, true, false, cond, inl, inr, List, [], ◌∷◌, length, map, nat_le, Option, Some, None, refl, ap, sym, subst, ◌∙◌, arith}
use Rattle.std.specs.Prelude.{IfSome, IsSome, filter, position, slice_get}
use Rattle.std.specs.List.{position_from}
use Rattle.std.specs.Option.{option_and_then, option_map, option_map_or}
use Rattle.std.proofs.lemmas.Iterator.Adapters.{position_from-zero}
use Rattle.std.proofs.lemmas.Option.{slice_get_cases}
use Rattle.std.proofs.lemmas.Simd.{map-map}
use Rattle.sed_value.specs.declared.slot_type.Primitive.TheVariants as prim
use Rattle.sed_value.specs.declared.slot_type.SlotType.{SlotType}
use Rattle.sed_value.specs.declared.slot_type.SlotType.TheVariants as slot
use Rattle.sed_typed.specs.declared.program.Field.{Field}
use Rattle.sed_typed.specs.declared.program.FieldForm.{FieldForm}
use Rattle.sed_typed.specs.declared.program.Program.{Program}
use Rattle.sed_typed.specs.declared.schema.ClassInfo.{ClassInfo}
use Rattle.sed_typed.specs.declared.schema.SlotForm.{SlotForm}
use Rattle.sed_typed.specs.declared.schema.SlotForm.TheVariants.{Prop, Action}
use Rattle.sed_typed.specs.declared.schema.SlotInfo.{SlotInfo}
use Rattle.sed_typed.specs.Classes.{fields}
use Rattle.sed_typed.specs.Contents.{Shape}
use Rattle.sed_typed.specs.Sizes.{data_size}
use Rattle.sed_typed.specs.Typed.{Typed}
use Rattle.sed_typed.specs.TypedSchema.{HasSlot, HasSlots, IsProperty, in_slot}
use Rattle.sed_engine.specs.Code.{property_type, slot_type}
use Rattle.sed_engine.specs.Program as language
use Rattle.sed_layout.specs.Offsets.{offset_of, static_offset_of}
use Rattle.sed_layout.proofs.Inherited.{fields_beyond}
use Rattle.scode_image.specs.declared.image.ImageClass.{ImageClass}
use Rattle.scode_image.specs.declared.image.ImageField.{ImageField}
use Rattle.scode_code.specs.Contents as contents
use Rattle.scode_code.specs.Tables.{class_fields, field_number, form_of, shape_of, slot_field, slot_field_in}
use Rattle.scode_gen.specs.Generated.{image_of}
use Rattle.scode_gen.specs.ImageFields as placed
use Rattle.scode_gen.specs.ImageSlots.{image_slot, image_slots, property_offset, slot_number, slot_place, slot_room}
use Rattle.scode_sim.specs.Made.{number_of_form, room_of_form}
use Rattle.scode_made.proofs.FirstBytes.{first_many}
use Rattle.scode_made.proofs.MadeFields.{StandApart, found}
use Rattle.scode_made.proofs.PlacedFields.{forms_are}
use Rattle.scode_made.proofs.Places.{numbered}
use Rattle.scode_made.proofs.Rows.{class_at, fields_at, fields_past}

-- ---- shapes

abbrev shape : FieldForm → Shape
shape f = record { form = f }

shapes_are : (all : List Field) (made : List ImageField) → map form_of made ≡ map (λ (f : Field). f.form) all → map shape_of made ≡ map language.shape_of all
shapes_are all made e = sym (map-map shape form_of made) ∙ ap (map shape) e ∙ map-map shape (λ (f : Field). f.form) all

pub made_fields : (program : Program) → Typed program → (class : ℕ) → class_fields (image_of program) class ≡ placed.class_fields program class
made_fields program typed class = elim (slice_get_cases program.schema.classes class).1 [
  | inl (info, within, there, same) ↦ fields_at program class info there
  | inr (past, none) ↦
      fields_past program class none ∙ sym (ap (placed.fields_placed (offset_of program class)) (fields_beyond program typed class past))
]

pub class_shapes : (program : Program) → Typed program → (class : ℕ) → map shape_of (class_fields (image_of program) class) ≡ map language.shape_of (fields program class)
class_shapes program typed class =
    shapes_are (fields program class) (class_fields (image_of program) class)
    (ap (map form_of) (made_fields program typed class) ∙ forms_are (offset_of program class) (fields program class))

pub static_shapes : (program : Program) → map shape_of (image_of program).static_fields ≡ map language.shape_of program.statics
static_shapes program =
    shapes_are program.statics (image_of program).static_fields (forms_are (static_offset_of program) program.statics)

-- ---- sizes

pub sizes_are : (program : Program) → Typed program → (class : ℕ) → class < length program.schema.classes → contents.data_size (image_of program) class ≡ data_size program class
sizes_are program typed class h = elim (slice_get_cases program.schema.classes class).1 [
  | inl (info, within, there, same) ↦
      ap (λ (o : Option ImageClass). length (option_map_or (λ c. c.contents) o [])) (class_at program class info there) ∙ first_many program typed class
  | inr (past, none) ↦ absurd (omega (arith, past, h))
]

-- ---- properties

-- the one that a filter keeps is the first that passes
record IsOne (p : Field → Bool) (start : ℕ) (xs : List Field) (f : Field) : Type 0 where
  place : ℕ
  first : position_from p start xs ≡ Some (start + place)
  there : slice_get xs place ≡ Some f

only_one : (p : Field → Bool) (start : ℕ) (xs : List Field) (f : Field) → filter p xs ≡ f ∷ [] → IsOne p start xs f
only_one p start [] f e = let never : ⊥ = cc in absurd never
only_one p start (x ∷ xs) f e = by_test (p x) refl e (λ rest. only_one p (start + 1) xs f rest)
  where
    by_test : (b : Bool) → p x ≡ b → cond b (x ∷ filter p xs) (filter p xs) ≡ f ∷ [] → (filter p xs ≡ f ∷ [] → IsOne p (start + 1) xs f) → IsOne p start (x ∷ xs) f
    by_test true is e again =
        let same : x ≡ f = cc in
        record {
          place = 0;
          first = ap (λ (b : Bool). cond b (Some start) (position_from p (start + 1) xs)) is ∙ ap Some (let z : start ≡ start + 0 = omega arith in z);
          there = ap Some same;
        }
    by_test false is e again =
        let one = again e in
        record {
          place = suc one.place;
          first = ap (λ (b : Bool). cond b (Some start) (position_from p (start + 1) xs)) is
              ∙ one.first
              ∙ ap Some (let z : (start + 1) + one.place ≡ start + suc one.place = omega arith in z);
          there = one.there;
        }

-- a property is in its slot by the number, the offset and the n of its field
pub number_back : (s : SlotInfo) (t : SlotType) (f : Field) → IsProperty s t f →
    (nat_le (slot_number (Prop t)) 7 ≡ true) × (slot_number (Prop t) ≡ number_of_form f.form) × (slot_room (Prop t) ≡ room_of_form f.form)
number_back s (slot.Prim prim.Bool) f is = (refl, sym (ap number_of_form is.0), sym (ap room_of_form is.0))
number_back s (slot.Prim prim.Byte) f is = (refl, sym (ap number_of_form is.0), sym (ap room_of_form is.0))
number_back s (slot.Prim prim.Short) f is = (refl, sym (ap number_of_form is.0), sym (ap room_of_form is.0))
number_back s (slot.Prim prim.Int) f is = (refl, sym (ap number_of_form is.0), sym (ap room_of_form is.0))
number_back s (slot.Prim prim.Long) f is = (refl, sym (ap number_of_form is.0), sym (ap room_of_form is.0))
number_back s (slot.Buf n) f is = (refl, sym (ap number_of_form is.0), sym (ap room_of_form is.0))

module _ (program : Program) (typed : Typed program) (class : ℕ) (apart : StandApart (offset_of program class) (fields program class)) where
  abbrev own : List ImageField
  own = placed.class_fields program class

  property_back : (k : ℕ) (s : SlotInfo) (t : SlotType) → HasSlot program class k s (Prop t) →
      cond (nat_le (slot_number (Prop t)) 7) (field_number own (slot_number (Prop t)) (property_offset program class k) (slot_room (Prop t))) None
      ≡ position (in_slot k) (fields program class)
  property_back k s t (f, only, is) =
      let one = only_one (in_slot k) 0 (fields program class) f only in
      let at : position (in_slot k) (fields program class) ≡ Some one.place =
      position_from-zero (in_slot k) (fields program class) ∙ one.first ∙ ap Some (let z : 0 + one.place ≡ one.place = omega arith in z) in
      let back = number_back s t f is in
      let offset : property_offset program class k ≡ offset_of program class one.place =
      ap (λ (o : Option ℕ). option_map_or (offset_of program class) o 0) at in
      ap (λ (b : Bool). cond b (field_number own (slot_number (Prop t)) (property_offset program class k) (slot_room (Prop t))) None) back.0
      ∙ ap (λ (n : ℕ). field_number own n (property_offset program class k) (slot_room (Prop t))) back.1
      ∙ ap (λ (n : ℕ). field_number own (number_of_form f.form) n (slot_room (Prop t))) offset
      ∙ ap (field_number own (number_of_form f.form) (offset_of program class one.place)) back.2
      ∙ found (offset_of program class) (fields program class) one.place f one.there apart
      ∙ sym at

  by_form : (k : ℕ) (s : SlotInfo) (f : SlotForm) → s.form ≡ f → HasSlot program class k s f → IsSome (property_type (Some f)) →
      slot_field_in own (image_slot program class k s) ≡ position (in_slot k) (fields program class)
  by_form k s (Action a) e has some = let never : ⊥ = cc in absurd never
  by_form k s (Prop t) e has some =
      ap
      (λ (f : SlotForm). cond (nat_le (slot_number f) 7) (field_number own (slot_number f) (slot_place program class k s.name f) (slot_room f)) None) e
      ∙ property_back k s t has

  pub slot_fields_are : (k : ℕ) → IsSome (slot_type (language.code_of program) class k) →
      slot_field (image_of program) class k ≡ position (in_slot k) (fields program class)
  slot_fields_are k some = by_class (slice_get program.schema.classes class) refl some
    where
      by_slot : (info : ClassInfo) → slice_get program.schema.classes class ≡ Some info → (o : Option SlotInfo) → slice_get info.slots k ≡ o →
          IsSome (property_type (option_map (λ s. s.form) o)) → slot_field (image_of program) class k ≡ position (in_slot k) (fields program class)
      by_slot info there None is some = let never : ⊥ = cc in absurd never
      by_slot info there (Some s) is some =
          let slots : HasSlots program class info = subst (λ (o : Option ClassInfo). IfSome o (HasSlots program class)) there (typed.slots class) in
          let has : HasSlot program class k s s.form = subst (λ (o : Option SlotInfo). IfSome o (λ x. HasSlot program class k x x.form)) is (slots.each k) in
          let in_slots : slice_get (image_slots program class info.slots) k ≡ Some (image_slot program class k s) =
          numbered (image_slot program class) k info.slots ∙ ap (option_map (image_slot program class k)) is in
          ap (λ (o : Option ImageClass). option_and_then (λ (c : ImageClass). option_and_then (slot_field_in c.fields) (slice_get c.slots k)) o) (class_at program class info there)
          ∙ ap (option_and_then (slot_field_in own)) in_slots
          ∙ by_form k s s.form refl has some

      by_class : (o : Option ClassInfo) → slice_get program.schema.classes class ≡ o →
          IsSome (property_type (option_map (λ s. s.form) (slice_get (option_map_or (λ (x : ClassInfo). x.slots) o []) k))) →
          slot_field (image_of program) class k ≡ position (in_slot k) (fields program class)
      by_class None is some = let never : ⊥ = cc in absurd never
      by_class (Some info) is some = by_slot info is (slice_get info.slots k) refl some
