-- The fields and slots of an image have a spelling.
use Rattle.std.proofs.Common.{◌≡◌, ℕ, ◌^◌, ◌<◌, ◌≤◌, Bool, true, false, List, [], length, Option, Some, None, refl, arith}
use Rattle.std.specs.Prelude.{All, position, unwrap_or}
use Rattle.std.specs.List.{sum_by}
use Rattle.std.specs.Option.{option_map_or}
use Rattle.std.specs.Str.{bytes_eq}
use Rattle.std.proofs.lemmas.List.Quantifiers.{position-Some}
use Rattle.std.proofs.lemmas.List.Sums.{sum_by-take-le}
use Rattle.sed_value.proofs.Lists.{at_place}
use Rattle.sed_value.specs.declared.slot_type.Primitive.{Primitive}
use Rattle.sed_value.specs.declared.slot_type.Primitive.TheVariants as prim
use Rattle.sed_value.specs.declared.slot_type.SlotType.TheVariants.{Prim as PrimSlot, Buf as BufSlot}
use Rattle.sed_typed.specs.declared.program.Field.{Field}
use Rattle.sed_typed.specs.declared.program.FieldForm.{FieldForm}
use Rattle.sed_typed.specs.declared.program.FieldForm.TheVariants.{Prim, Str, Buf, Array, Object}
use Rattle.sed_typed.specs.declared.program.Program.{Program}
use Rattle.sed_typed.specs.declared.schema.ActionArg.TheVariants as argument
use Rattle.sed_typed.specs.declared.schema.SlotForm.{SlotForm}
use Rattle.sed_typed.specs.declared.schema.SlotForm.TheVariants.{Prop, Action}
use Rattle.sed_typed.specs.declared.schema.SlotInfo.{SlotInfo}
use Rattle.sed_typed.specs.Classes.{fields}
use Rattle.sed_typed.specs.Spelled.{HasByteLength, HasSmallForm, IsSpelledField, IsSpelledSlot}
use Rattle.sed_typed.specs.TypedSchema.{in_slot}
use Rattle.sed_typed.specs.Virtual.{virtual_names}
use Rattle.sed_layout.specs.MethodTables.{place_of}
use Rattle.sed_layout.specs.Offsets.{field_width, offset_of, width_before}
use Rattle.sed_wire.specs.Leaves.{u1, u2}
use Rattle.sed_wire.specs.Row.{counted}
use Rattle.scode_image.specs.Grammar.{field, slot, slot_form}
use Rattle.scode_gen.specs.ImageFields.{fields_placed, image_field, primitive_number}
use Rattle.scode_gen.specs.ImageSlots.{config_number, image_slot, image_slots, slot_number, slot_place, slot_room}
use Rattle.scode_text.proofs.Forms.{HasBytes, counted_bytes, u1_bytes, u2_bytes}
use Rattle.scode_text.proofs.Lists.{each_numbered, many_numbered}
use Rattle.scode_text.proofs.Names.{word_is_text}
use Rattle.scode_text.proofs.Parts.{IsToldSlot, field_told, slot_form_told, slot_told}

-- ---- fields

primitive_small : (p : Primitive) → (1 ≤ primitive_number p) × (primitive_number p ≤ 5)
primitive_small prim.Bool = (omega arith, omega arith)
primitive_small prim.Byte = (omega arith, omega arith)
primitive_small prim.Short = (omega arith, omega arith)
primitive_small prim.Int = (omega arith, omega arith)
primitive_small prim.Long = (omega arith, omega arith)

form_told : (offset : ℕ) (f : FieldForm) → offset ≤ 65535 → HasSmallForm f → HasBytes field (image_field offset f)
form_told offset (Prim p) le h =
    let small : (1 ≤ primitive_number p) × (primitive_number p ≤ 5) = primitive_small p in
    field_told (image_field offset (Prim p)) le small.0 (omega (arith, small.1)) (omega arith)
form_told offset (Str n) le h =
    let small : n < 2 ^ 8 = h in
    field_told (image_field offset (Str n)) le (omega arith) (omega arith) (omega (arith, small))
form_told offset (Buf n) le h =
    let small : n < 2 ^ 8 = h in
    field_told (image_field offset (Buf n)) le (omega arith) (omega arith) (omega (arith, small))
form_told offset (Object class) le h =
    let small : class.0 < 2 ^ 16 = h in
    field_told (image_field offset (Object class)) le (omega arith) (omega arith) (omega (arith, small))
form_told offset (Array p n) le h =
    let small : (1 ≤ primitive_number p) × (primitive_number p ≤ 5) = primitive_small p in
    let few : n < 2 ^ 16 = h in
    field_told (image_field offset (Array p n)) le (omega arith) (omega (arith, small.1)) (omega (arith, few))

pub fields_told : (offset : ℕ → ℕ) (all : List Field) → ((i : ℕ) → offset i ≤ 65535) → length all ≤ 65535 → All IsSpelledField all → HasBytes (counted u2 field) (fields_placed offset all)
fields_told offset all small few spelled =
    let many : length (fields_placed offset all) ≡ length all = many_numbered (λ (k : ℕ) (g : Field). image_field (offset k) g.form) all in
    counted_bytes u2 field (fields_placed offset all) (u2_bytes (length (fields_placed offset all)) (omega (arith, few, many)))
    (each_numbered (HasBytes field) (λ (k : ℕ) (g : Field). image_field (offset k) g.form) all
    (λ i g at. form_told (offset i) g.form (small i) (at_place IsSpelledField all i g spelled at).form))

-- where they have few bytes together
pub before_small : (program : Program) (all : List Field) → sum_by (field_width program) all ≤ 65535 → (i : ℕ) → width_before program all i ≤ 65535
before_small program all few i =
    let less : width_before program all i ≤ sum_by (field_width program) all = sum_by-take-le (field_width program) all i in
    omega (arith, less, few)

-- ---- slots

number_told : (f : SlotForm) → HasBytes slot_form (slot_number f)
number_told (Prop (PrimSlot prim.Bool)) = slot_form_told 1 (omega arith) refl
number_told (Prop (PrimSlot prim.Byte)) = slot_form_told 2 (omega arith) refl
number_told (Prop (PrimSlot prim.Short)) = slot_form_told 3 (omega arith) refl
number_told (Prop (PrimSlot prim.Int)) = slot_form_told 4 (omega arith) refl
number_told (Prop (PrimSlot prim.Long)) = slot_form_told 5 (omega arith) refl
number_told (Prop (BufSlot n)) = slot_form_told 7 (omega arith) refl
number_told (Action argument.Void) = slot_form_told 0x10 (omega arith) refl
number_told (Action argument.Bool) = slot_form_told 0x11 (omega arith) refl
number_told (Action argument.Int) = slot_form_told 0x12 (omega arith) refl
number_told (Action argument.Long) = slot_form_told 0x13 (omega arith) refl

room_small : (f : SlotForm) → HasByteLength f → slot_room f ≤ 65535
room_small (Prop (PrimSlot p)) h = omega arith
room_small (Prop (BufSlot n)) h = let small : n < 2 ^ 8 = h in omega (arith, small)
room_small (Action a) h = omega arith

config_small : (kept : Bool) (f : SlotForm) → config_number kept f ≤ 1
config_small true (Prop t) = omega arith
config_small false (Prop t) = omega arith
config_small kept (Action a) = omega arith

-- of a class whose fields have few bytes, with few virtual methods
module _ (program : Program) (class : ℕ) (bytes : (i : ℕ) → offset_of program class i ≤ 65535) (few : length (virtual_names program class) ≤ 255) where
  offset_small : (o : Option ℕ) → option_map_or (offset_of program class) o 0 ≤ 65535
  offset_small None = omega arith
  offset_small (Some i) = bytes i

  action_small : (name : List ℕ) (o : Option ℕ) → place_of program class name ≡ o → unwrap_or o 0 ≤ 65535
  action_small name None e = omega arith
  action_small name (Some place) e =
      let within : place < length (virtual_names program class) = (position-Some (λ (other : List ℕ). bytes_eq other name) (virtual_names program class) place [] e).0 in
      omega (arith, within, few)

  place_small : (number : ℕ) (name : List ℕ) (f : SlotForm) → slot_place program class number name f ≤ 65535
  place_small number name (Prop t) = offset_small (position (in_slot number) (fields program class))
  place_small number name (Action a) = action_small name (place_of program class name) refl

  pub slots_told : (all : List SlotInfo) → length all ≤ 64 → All IsSpelledSlot all → HasBytes (counted u1 slot) (image_slots program class all)
  slots_told all few_slots spelled =
      let many : length (image_slots program class all) ≡ length all = many_numbered (image_slot program class) all in
      counted_bytes u1 slot (image_slots program class all) (u1_bytes (length (image_slots program class all)) (omega (arith, few_slots, many)))
      (each_numbered (HasBytes slot) (image_slot program class) all
      (λ i s at. slot_told (image_slot program class i s) (is_told i s (at_place IsSpelledSlot all i s spelled at))))
    where
      is_told : (i : ℕ) (s : SlotInfo) → IsSpelledSlot s → IsToldSlot (image_slot program class i s)
      is_told i s known = record {
        name = word_is_text s.name known.name;
        form = number_told s.form;
        place = place_small i s.name s.form;
        room = room_small s.form known.form;
        config = config_small s.config s.form;
      }
