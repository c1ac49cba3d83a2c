-- The fields and the static fields of a program, with their numbers and what they begin with.
use Rattle.std.specs.Prelude.{ℕ, ◌+◌, if◌then◌else◌, List, [], ◌∷◌, ◌++◌, filter, length, position, sum_by, take}
use Rattle.std.specs.Prelude.{unwrap_or, Option, Some, None}
use Rattle.std.specs.List.{enumerate_from, filter_map, flat_map}
use Rattle.std.specs.Option.{option_map}
use Rattle.std.specs.Str.{bytes_eq}
use Rattle.sed_value.specs.declared.slot_type.Primitive.{Primitive}
use Rattle.sed_value.specs.declared.value.Value.{Value}
use Rattle.sed_value.specs.declared.value.Value.TheVariants as value
use Rattle.sed_units.specs.declared.leaves.Init.{Init}
use Rattle.sed_units.specs.declared.leaves.InitValue.{InitValue}
use Rattle.sed_units.specs.declared.leaves.InitValue.TheVariants as init
use Rattle.sed_units.specs.declared.classes.Member.{Member}
use Rattle.sed_typed.specs.declared.number.SlotNo.{SlotNo}
use Rattle.sed_typed.specs.declared.schema.SlotInfo.{SlotInfo}
use Rattle.sed_typed.specs.declared.program.Field.{Field}
use Rattle.sed_typed.specs.declared.program.FieldForm.{FieldForm}
use Rattle.sed_typed.specs.declared.program.FieldForm.TheVariants as form
use Rattle.sed_typed.specs.Initial.{zero_value}
use Rattle.sed_classes.specs.declared.kit_units.KitUnits.{KitUnits}
use Rattle.sed_classes.specs.declared.source_type.Constant.{Constant}
use Rattle.sed_classes.specs.declared.source_type.Constant.TheVariants as constant
use Rattle.sed_classes.specs.Bases.{bases}
use Rattle.sed_classes.specs.Literals.{text_of}
use Rattle.sed_classes.specs.Members.{kit_of, members_of, has_name, is_instance_field, is_static_field, is_property}
use Rattle.sed_classes.specs.Members.{form_value}
use Rattle.sed_classes.specs.Schema.{class_order, type_number}
use Rattle.sed_classes.specs.Slots.{slots}
use Rattle.sed_classes.specs.Values.{constant_of, kept_constant}
use Rattle.sed_program.specs.Types.{type_no, form_of}

-- ---- numbers

-- the instance fields, and the static ones, that the class at a place itself declares
abbrev pub own_fields : List KitUnits → ℕ → List Member
own_fields units class = filter is_instance_field (members_of units class)

abbrev pub own_statics : List KitUnits → ℕ → List Member
own_statics units class = filter is_static_field (members_of units class)

-- the place of the first one of a name
abbrev pub place_named : List ℕ → List Member → ℕ
place_named name members = unwrap_or (position (has_name name) members) 0

-- the number of a field of the class at a place, inherited ones first
abbrev pub field_number : List KitUnits → ℕ → List ℕ → ℕ
field_number units class name =
    sum_by (λ base. length (own_fields units base)) (bases units class) + place_named name (own_fields units class)

-- what the classes that stand in the schema before the class at a place come to
abbrev pub before_class : (ℕ → ℕ) → List KitUnits → ℕ → ℕ
before_class count units class = sum_by count (take (unwrap_or (type_number units class) 0) (class_order units))

-- the number of a static field of the class at a place
abbrev pub static_number : List KitUnits → ℕ → List ℕ → ℕ
static_number units class name =
    before_class (λ c. length (own_statics units c)) units class + place_named name (own_statics units class)

-- ---- what fields begin with

-- what a primitive keeps of a value, and 0 or false without one
abbrev pub number_or : Value → Constant → Value
number_or zero (constant.Number v) = v
number_or zero c = zero

abbrev pub kept_value : Primitive → Constant → Value
kept_value p c = number_or (zero_value p) (kept_constant p c)

abbrev pub begun_number : List KitUnits → ℕ → Primitive → Option Init → Value
begun_number units class p None = zero_value p
begun_number units class p (Some i) = kept_value p (constant_of units class i)

-- a Buf begins with the characters of its text and a 0
abbrev pub begun_text : InitValue → List ℕ
begun_text (init.Literal l) = text_of l.bytes ++ 0 ∷ []
begun_text v = []

abbrev pub begun_buffer : Option Init → Value
begun_buffer None = value.Buf []
begun_buffer (Some i) = value.Buf (begun_text i.value)

abbrev pub begun : List KitUnits → ℕ → FieldForm → Option Init → Value
begun units class (form.Prim p) i = begun_number units class p i
begun units class (form.Buf n) i = begun_buffer i
begun units class f i = value.Nothing

-- ---- fields

abbrev pub slot_no : ℕ → SlotNo
slot_no n = record { 0 = n }

-- the slot of a property among these, by its name
abbrev pub slot_among : List SlotInfo → Member → Option SlotNo
slot_among slots m =
    if is_property m then option_map slot_no (position (λ s. bytes_eq s.name m.name.bytes) slots) else None

abbrev pub slot_of_field : List KitUnits → ℕ → Member → Option SlotNo
slot_of_field units class m = slot_among (slots units class) m

-- a field of the class with this number at this place, which holds this
abbrev pub a_field : List KitUnits → ℕ → ℕ → Member → FieldForm → Field
a_field units number class m f = record {
  class = type_no number;
  name = m.name.bytes;
  form = f;
  slot = slot_of_field units class m;
  initial = begun units class f (form_value m.form);
}

-- a member as a field, where it is known what it holds
abbrev pub field_of : List KitUnits → ℕ → ℕ → Member → Option Field
field_of units number class m = option_map (a_field units number class m) (form_of units (kit_of units class) m)

-- the fields of all classes, in the order of the schema
abbrev pub all_fields : List KitUnits → (ℕ → List Member) → List Field
all_fields units own = flat_map (λ c. filter_map (field_of units c.0 c.1) (own c.1)) (enumerate_from 0
    (class_order units))

abbrev pub fields_of : List KitUnits → List Field
fields_of units = all_fields units (own_fields units)

abbrev pub statics_of : List KitUnits → List Field
statics_of units = all_fields units (own_statics units)
