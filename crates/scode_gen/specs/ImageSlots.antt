-- The slots of classes, as they stand in an image.
use Rattle.std.specs.Prelude.{ℕ, Bool, if◌then◌else◌, List, map, position, unwrap_or}
use Rattle.std.specs.List.{enumerate_from}
use Rattle.std.specs.Option.{option_map_or}
use Rattle.sed_value.specs.declared.slot_type.SlotType.TheVariants as slot
use Rattle.sed_typed.specs.declared.program.Program.{Program}
use Rattle.sed_typed.specs.declared.schema.ActionArg.{ActionArg}
use Rattle.sed_typed.specs.declared.schema.ActionArg.TheVariants.{Void, Bool as Truth, Int, Long}
use Rattle.sed_typed.specs.declared.schema.SlotForm.{SlotForm}
use Rattle.sed_typed.specs.declared.schema.SlotForm.TheVariants.{Prop, Action}
use Rattle.sed_typed.specs.declared.schema.SlotInfo.{SlotInfo}
use Rattle.sed_typed.specs.Classes.{fields}
use Rattle.sed_typed.specs.TypedSchema.{in_slot}
use Rattle.sed_layout.specs.MethodTables.{place_of}
use Rattle.sed_layout.specs.Offsets.{offset_of}
use Rattle.scode_image.specs.declared.image.ImageSlot.{ImageSlot}
use Rattle.scode_gen.specs.ImageFields.{primitive_number}

-- a property has the form of its field, and an action one by its argument
abbrev pub action_number : ActionArg → ℕ
action_number Void = 0x10
action_number Truth = 0x11
action_number Int = 0x12
action_number Long = 0x13

abbrev pub slot_number : SlotForm → ℕ
slot_number (Prop (slot.Prim p)) = primitive_number p
slot_number (Prop (slot.Buf n)) = 7
slot_number (Action a) = action_number a

-- how many bytes a Buf has at most
abbrev pub slot_room : SlotForm → ℕ
slot_room (Prop (slot.Prim p)) = 0
slot_room (Prop (slot.Buf n)) = n
slot_room (Action a) = 0

-- the offset of the field that is the property in a slot of a class: 0 where there is none, as in no typed program
abbrev pub property_offset : Program → ℕ → ℕ → ℕ
property_offset program class number =
    option_map_or (offset_of program class) (position (in_slot number) (fields program class)) 0

-- the place of an action in the table of its class, likewise
abbrev pub action_place : Program → ℕ → List ℕ → ℕ
action_place program class name = unwrap_or (place_of program class name) 0

abbrev pub slot_place : Program → ℕ → ℕ → List ℕ → SlotForm → ℕ
slot_place program class number name (Prop t) = property_offset program class number
slot_place program class number name (Action a) = action_place program class name

-- 1 where the application file keeps it; it keeps no action
abbrev pub config_number : Bool → SlotForm → ℕ
config_number kept (Prop t) = if kept then 1 else 0
config_number kept (Action a) = 0

-- a slot of a class, by its number
abbrev pub image_slot : Program → ℕ → ℕ → SlotInfo → ImageSlot
image_slot program class number s = record {
  name = s.name;
  form = slot_number s.form;
  place = slot_place program class number s.name s.form;
  n = slot_room s.form;
  config = config_number s.config s.form;
}

-- slots of a class, numbered from 0
abbrev pub image_slots : Program → ℕ → List SlotInfo → List ImageSlot
image_slots program class all =
    map (λ (at : ℕ × SlotInfo). image_slot program class at.0 at.1) (enumerate_from 0 all)
