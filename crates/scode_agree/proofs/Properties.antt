-- The slots of classes: where their fields stand, and their methods in tables.
use Rattle.std.proofs.Common.{◌≡◌, ℕ, ◌<◌, false, nat_le, length, Option, Some, refl, ap, sym, ◌∙◌}
use Rattle.std.specs.Prelude.{IsSomeAnd, position, slice_get, unwrap_or}
use Rattle.std.specs.Option.{option_map_or}
use Rattle.std.proofs.lemmas.Option.{same_Some, slice_get_within}
use Rattle.sed_value.specs.declared.slot_type.Primitive.TheVariants as prim
use Rattle.sed_value.specs.declared.slot_type.SlotType.{SlotType}
use Rattle.sed_value.specs.declared.slot_type.SlotType.TheVariants as slot
use Rattle.sed_typed.specs.declared.program.Field.{Field}
use Rattle.sed_typed.specs.declared.program.Method.{Method}
use Rattle.sed_typed.specs.declared.program.Program.{Program}
use Rattle.sed_typed.specs.declared.schema.ActionArg.{ActionArg}
use Rattle.sed_typed.specs.declared.schema.SlotForm.TheVariants.{Prop, Action}
use Rattle.sed_typed.specs.declared.schema.SlotInfo.{SlotInfo}
use Rattle.sed_typed.specs.Classes.{fields, find}
use Rattle.sed_typed.specs.TypedSchema.{HasSlot, IsAction, IsProperty, in_slot}
use Rattle.sed_engine.proofs.Below.{of_some}
use Rattle.sed_engine.proofs.Positions.{alone_at}
use Rattle.sed_layout.specs.MethodTables.{place_of, table_of}
use Rattle.sed_layout.specs.Offsets.{offset_of}
use Rattle.scode_gen.specs.ImageSlots.{action_place, property_offset, slot_number}
use Rattle.scode_made.specs.Laid.{IsTabled}
use Rattle.scode_made.proofs.MadeTables.{placed}

-- ---- properties

-- the field that is the property in a slot
pub record HasField (program : Program) (class n : ℕ) (s : SlotInfo) (t : SlotType) : Type 0 where
  pub place : ℕ
  pub field : Field
  pub first : position (in_slot n) (fields program class) ≡ Some place
  pub there : slice_get (fields program class) place ≡ Some field
  pub is : IsProperty s t field
  pub offset : property_offset program class n ≡ offset_of program class place

pub its_field : (program : Program) (class n : ℕ) (s : SlotInfo) (t : SlotType) → HasSlot program class n s (Prop t)
    → HasField program class n s t
its_field program class n s t (f, only, is) =
    let one = alone_at (in_slot n) (fields program class) f only in
    record {
      place = one.0;
      field = f;
      first = one.1;
      there = one.2;
      is = is;
      offset = ap (λ (o : Option ℕ). option_map_or (offset_of program class) o 0) one.1;
    }

-- no property is an action
pub no_action : (t : SlotType) → nat_le 0x10 (slot_number (Prop t)) ≡ false
no_action (slot.Prim prim.Bool) = refl
no_action (slot.Prim prim.Byte) = refl
no_action (slot.Prim prim.Short) = refl
no_action (slot.Prim prim.Int) = refl
no_action (slot.Prim prim.Long) = refl
no_action (slot.Buf n) = refl

-- ---- actions

-- the method of an action, and its place in the table
pub record HasMethod (program : Program) (class : ℕ) (s : SlotInfo) (a : ActionArg) : Type 0 where
  pub number : ℕ
  pub place : ℕ
  pub found : find program class s.name ≡ Some number
  pub is : IsSomeAnd (slice_get program.methods number) (IsAction a)
  pub placed_at : place_of program class s.name ≡ Some place
  pub stands : slice_get (table_of program class) place ≡ Some number
  pub within : place < length (table_of program class)
  pub said : action_place program class s.name ≡ place

pub its_method : (program : Program) → IsTabled program → (class n : ℕ) (s : SlotInfo) (a : ActionArg)
    → HasSlot program class n s (Action a) → HasMethod program class s a
its_method program tabled class n s a has =
    let found =
    of_some {P = λ (m : ℕ). IsSomeAnd (slice_get program.methods m) (IsAction a)} (find program class s.name) has.1 in
    let method = of_some {P = IsAction a} (slice_get program.methods found.0) found.2 in
    let at =
    placed program tabled class found.0 s.name
    (ap (λ (o : Option Method). option_map_or (λ x. x.is_virtual) o false) method.1 ∙ method.2.1) found.1 in
    let stands =
    of_some {P = λ (m : ℕ). find program class s.name ≡ Some m} (slice_get (table_of program class) at.0)
    (tabled.at_place class at.0 s.name at.1) in
    let same : stands.0 ≡ found.0 = same_Some stands.0 found.0 (sym stands.2 ∙ found.1) in
    let there : slice_get (table_of program class) at.0 ≡ Some found.0 = stands.1 ∙ ap Some same in
    record {
      number = found.0;
      place = at.0;
      found = found.1;
      is = found.2;
      placed_at = at.1;
      stands = there;
      within = slice_get_within (table_of program class) at.0 found.0 there;
      said = ap (λ (o : Option ℕ). unwrap_or o 0) at.1;
    }
