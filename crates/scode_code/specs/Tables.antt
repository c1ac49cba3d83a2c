-- What the tables of an image say: its schema, the fields of its classes, and the field behind a slot.
use Rattle.std.specs.Prelude.{ℕ, ◌-◌, ◌==◌, ◌&&◌, ◌%◌, Bool, nat_le, if◌then◌else◌, List, [], map, length, position}
use Rattle.std.specs.Prelude.{slice_get, Option, Some, None}
use Rattle.std.specs.Option.{option_and_then, option_map_or}
use Rattle.sed_value.specs.declared.kit.KitRef.{KitRef}
use Rattle.sed_value.specs.declared.slot_type.Primitive.{Primitive}
use Rattle.sed_value.specs.declared.slot_type.Primitive.TheVariants as prim
use Rattle.sed_value.specs.declared.slot_type.SlotType.TheVariants as slot
use Rattle.sed_typed.specs.declared.number.TypeNo.{TypeNo}
use Rattle.sed_typed.specs.declared.program.FieldForm.{FieldForm}
use Rattle.sed_typed.specs.declared.program.FieldForm.TheVariants as form
use Rattle.sed_typed.specs.declared.schema.ActionArg.TheVariants as argument
use Rattle.sed_typed.specs.declared.schema.ClassInfo.{ClassInfo}
use Rattle.sed_typed.specs.declared.schema.Schema.{Schema}
use Rattle.sed_typed.specs.declared.schema.SlotForm.{SlotForm}
use Rattle.sed_typed.specs.declared.schema.SlotForm.TheVariants.{Prop, Action}
use Rattle.sed_typed.specs.declared.schema.SlotInfo.{SlotInfo}
use Rattle.sed_typed.specs.Contents.{Shape}
use Rattle.scode_image.specs.declared.image.Image.{Image}
use Rattle.scode_image.specs.declared.image.ImageClass.{ImageClass}
use Rattle.scode_image.specs.declared.image.ImageField.{ImageField}
use Rattle.scode_image.specs.declared.image.ImageKit.{ImageKit}
use Rattle.scode_image.specs.declared.image.ImageSlot.{ImageSlot}

-- ---- forms

-- a primitive by the number of its form
abbrev pub primitive_of : ℕ → Primitive
primitive_of number =
    if number == 1 then prim.Bool else if number == 2 then prim.Byte else if number == 3 then prim.Short else if number
    == 4 then prim.Int else prim.Long

-- the forms 1 to 5 are primitives, 6 to 8 a Str, a Buf and an object, and 9 to 13 arrays of the primitives
abbrev pub form_of : ImageField → FieldForm
form_of f =
    if nat_le f.form 5 then form.Prim (primitive_of f.form)
    else if f.form == 6 then form.Str f.n
    else if f.form == 7 then form.Buf f.n
    else if f.form == 8 then form.Object (record { 0 = f.n })
    else form.Array (primitive_of (f.form - 8)) f.n

abbrev pub shape_of : ImageField → Shape
shape_of f = record { form = form_of f }

abbrev pub slot_form : ImageSlot → SlotForm
slot_form s =
    if nat_le s.form 5 then Prop (slot.Prim (primitive_of s.form))
    else if s.form == 7 then Prop (slot.Buf s.n)
    else if s.form == 0x10 then Action argument.Void
    else if s.form == 0x11 then Action argument.Bool
    else if s.form == 0x12 then Action argument.Int
    else Action argument.Long

-- ---- the schema

abbrev pub kit_of : ImageKit → KitRef
kit_of k = record { name = k.name; checksum = k.checksum }

-- of an action the config byte means nothing
abbrev pub slot_of : ImageSlot → SlotInfo
slot_of s = record { name = s.name; config = nat_le s.form 7 && (s.config == 1); form = slot_form s }

-- no base is 0xffff
abbrev pub base_of : ℕ → Option TypeNo
base_of base = if base == 0xffff then None else Some (record { 0 = base })

-- of the flags, 1 says abstract and 2 component
abbrev pub class_of : ImageClass → ClassInfo
class_of c = record {
  kit = c.kit;
  number = c.number;
  name = c.name;
  base = base_of c.base;
  is_abstract = c.flags % 2 == 1;
  is_component = nat_le 2 c.flags;
  size = length c.contents;
  slots = map slot_of c.slots;
}

abbrev pub schema_of : Image → Schema
schema_of image = record { kits = map kit_of image.kits; classes = map class_of image.classes }

-- ---- fields

-- the fields of a class, inherited ones first
abbrev pub class_fields : Image → ℕ → List ImageField
class_fields image class = option_map_or (λ c. c.fields) (slice_get image.classes class) []

-- the number of the field of this form, offset and n
abbrev pub is_field : ℕ → ℕ → ℕ → ImageField → Bool
is_field form offset n f = (f.form == form) && (f.offset == offset) && (f.n == n)

abbrev pub field_number : List ImageField → ℕ → ℕ → ℕ → Option ℕ
field_number fields form offset n = position (is_field form offset n) fields

-- a property has the field of its form, offset and n; an action has none
abbrev pub slot_field_in : List ImageField → ImageSlot → Option ℕ
slot_field_in fields s = if nat_le s.form 7 then field_number fields s.form s.place s.n else None

abbrev pub slot_field : Image → ℕ → ℕ → Option ℕ
slot_field image class number =
    option_and_then (λ c. option_and_then (slot_field_in c.fields) (slice_get c.slots number))
    (slice_get image.classes class)
