-- The types of which components are added in a generated record.
use Rattle.std.specs.Prelude.{ℕ, Bool, true, false, ◌==◌, ◌&&◌, ◌||◌, nat_lt, not, if◌then◌else◌, List, [], ◌∷◌, length}
use Rattle.std.specs.Prelude.{map, filter, slice_get, Option, Some, None}
use Rattle.std.specs.Option.{option_and_then, option_map_or}
use Rattle.sed_value.specs.declared.slot_type.Primitive.TheVariants.{Int}
use Rattle.sed_value.specs.declared.slot_type.SlotType.TheVariants.{Prim}
use Rattle.sed_typed.specs.declared.schema.ClassInfo.{ClassInfo}
use Rattle.sed_typed.specs.declared.schema.SlotForm.{SlotForm}
use Rattle.sed_typed.specs.declared.schema.SlotForm.TheVariants.{Prop}
use Rattle.sed_typed.specs.declared.schema.SlotInfo.{SlotInfo}
use Rattle.sed_typed.specs.Schemas.{type_at}
use Rattle.sed_typed.specs.SysTypes.{app_type}
use Rattle.sed_typed.specs.TypedSchema.{types_of}
use Rattle.sed_engine.specs.Code.{Meaning, new_object, slot_value}
use Rattle.node_table.specs.Properties.{config_slots, slots_that}
use Rattle.node_table.specs.Values.{spelling_of_all}
use Rattle.replay_log.specs.declared.gen_spec.GenType.{GenType}
use Rattle.replay_log.specs.Generated.{for_each}

-- ---- what is drawn of a type

-- the values that the config properties of a class begin with, in the order of the slots and in the bytes that spell
-- them
abbrev pub initial_config : Meaning → ℕ → List ℕ
initial_config m class = spelling_of_all (map (slot_value m (new_object m class)) (config_slots m class))

-- a property of type int
abbrev pub is_int_form : SlotForm → Bool
is_int_form (Prop (Prim Int)) = true
is_int_form form = false

abbrev pub is_int : SlotInfo → Bool
is_int slot = is_int_form slot.form

-- the slots of a class that are such properties, but for slot 0
abbrev pub int_slots : Meaning → ℕ → List ℕ
int_slots m class = filter (λ slot. nat_lt 0 slot) (slots_that is_int m class)

-- a class that is the type of a kit with a number
abbrev pub gen_type : Meaning → ℕ → ℕ → ℕ → GenType
gen_type m kit number class = record {
  kit = kit;
  number = number;
  config = initial_config m class;
  ints = int_slots m class;
}

-- ---- which types

-- `Folder` of `sys`, by its number in the kit
abbrev pub folder_type : ℕ
folder_type = 4

-- the App and `Folder`, which are types of `sys`
abbrev pub is_app_or_folder : ℕ → ℕ → Bool
is_app_or_folder kit number = (kit == 0) && ((number == app_type) || (number == folder_type))

-- a type of components that is not abstract
abbrev pub is_concrete : List ClassInfo → ℕ → Bool
is_concrete classes class = option_map_or (λ c. c.is_component && not c.is_abstract) (slice_get classes class) false

-- the class that is the type of a kit with a number, where components of it may be drawn
abbrev pub drawn_class : List ClassInfo → ℕ → ℕ → Option ℕ
drawn_class classes kit number =
    if is_app_or_folder kit number then None
    else option_and_then (λ class. if is_concrete classes class then Some class else None) (type_at classes kit number)

-- a type, where there is one
abbrev pub type_if : Meaning → ℕ → ℕ → Option ℕ → List GenType
type_if m kit number class = option_map_or (λ class. gen_type m kit number class ∷ []) class []

-- the types of a kit that are drawn, by their numbers
abbrev pub types_in_kit : Meaning → ℕ → List GenType
types_in_kit m kit =
    for_each (types_of m.schema.classes kit) (λ number. type_if m kit number (drawn_class m.schema.classes kit number))

-- those of all kits, in the order of the kits
abbrev pub types_in_kits : Meaning → List GenType
types_in_kits m = for_each (length m.schema.kits) (types_in_kit m)

-- `Folder` alone
abbrev pub folder_alone : Meaning → List GenType
folder_alone m = type_if m 0 folder_type (type_at m.schema.classes 0 folder_type)

-- what stands for no types
abbrev pub types_or : List GenType → List GenType → List GenType
types_or [] others = others
types_or (kind ∷ kinds) others = kind ∷ kinds

-- the types that are drawn: `Folder` alone where a program has no others
abbrev pub drawn_types : Meaning → List GenType
drawn_types m = types_or (types_in_kits m) (folder_alone m)
