-- The canonical text of a kit: what of its schema a checksum speaks of.
use Rattle.std.specs.Prelude.{ℕ, zero, suc, Bool, true, false, List, [], ◌∷◌, ◌++◌, drop, length, slice_get, Option}
use Rattle.std.specs.Prelude.{Some, None, codes}
use Rattle.std.specs.List.{flat_map}
use Rattle.std.specs.Option.{option_map, option_map_or}
use Rattle.std.specs.Fmt.{decimal}
use Rattle.sed_value.specs.declared.slot_type.Primitive.{Primitive}
use Rattle.sed_value.specs.declared.slot_type.Primitive.TheVariants as prim
use Rattle.sed_value.specs.declared.slot_type.SlotType.{SlotType}
use Rattle.sed_value.specs.declared.slot_type.SlotType.TheVariants.{Prim, Buf}
use Rattle.sed_value.specs.declared.kit.KitRef.{KitRef}
use Rattle.sed_typed.specs.declared.schema.ActionArg.{ActionArg}
use Rattle.sed_typed.specs.declared.schema.ActionArg.TheVariants as argument
use Rattle.sed_typed.specs.declared.schema.ClassInfo.{ClassInfo}
use Rattle.sed_typed.specs.declared.schema.Schema.{Schema}
use Rattle.sed_typed.specs.declared.schema.SlotForm.{SlotForm}
use Rattle.sed_typed.specs.declared.schema.SlotForm.TheVariants.{Prop, Action}
use Rattle.sed_typed.specs.declared.schema.SlotInfo.{SlotInfo}
use Rattle.sed_typed.specs.Classes.{slots}
use Rattle.sed_typed.specs.Schemas.{type_at}

-- each line ends with this byte
abbrev pub line_end : List ℕ
line_end = 10 ∷ []

-- ---- slots

abbrev pub primitive_word : Primitive → List ℕ
primitive_word prim.Bool = codes "bool"
primitive_word prim.Byte = codes "byte"
primitive_word prim.Short = codes "short"
primitive_word prim.Int = codes "int"
primitive_word prim.Long = codes "long"

-- `int`, `Buf(4)`
abbrev pub type_word : SlotType → List ℕ
type_word (Prim p) = primitive_word p
type_word (Buf n) = codes "Buf(" ++ (decimal n ++ codes ")")

abbrev pub argument_word : ActionArg → List ℕ
argument_word argument.Void = codes "void"
argument_word argument.Bool = codes "bool"
argument_word argument.Int = codes "int"
argument_word argument.Long = codes "long"

abbrev pub config_word : Bool → List ℕ
config_word true = codes "config"
config_word false = codes "runtime"

-- `prop NAME TYPE config`, `prop NAME TYPE runtime` or `action NAME ARG`
abbrev pub form_line : List ℕ → Bool → SlotForm → List ℕ
form_line name config (Prop t) =
    codes "prop " ++ (name ++ (codes " " ++ (type_word t ++ (codes " " ++ (config_word config ++ line_end)))))
form_line name config (Action a) = codes "action " ++ (name ++ (codes " " ++ (argument_word a ++ line_end)))

abbrev pub slot_line : SlotInfo → List ℕ
slot_line s = form_line s.name s.config s.form

-- ---- classes

-- the name of a kit; of one that isn't there, nothing
abbrev pub kit_name : List KitRef → ℕ → List ℕ
kit_name kits kit = option_map_or (λ k. k.name) (slice_get kits kit) []

-- `KIT::CLASS`
abbrev pub full_name : Schema → ClassInfo → List ℕ
full_name schema class = kit_name schema.kits class.kit ++ (codes "::" ++ class.name)

-- the number of the base
abbrev pub base_number : ClassInfo → Option ℕ
base_number class = option_map (λ base. base.0) class.base

-- the full name of the class of a number; where there is none, nothing
abbrev pub name_at : Schema → ℕ → List ℕ
name_at schema class = option_map_or (full_name schema) (slice_get schema.classes class) []

-- the full name of the base, or `-` where a class has none
abbrev pub base_word : Schema → ClassInfo → List ℕ
base_word schema class = option_map_or (name_at schema) (base_number class) (codes "-")

abbrev pub abstract_word : Bool → List ℕ
abstract_word true = codes "abstract"
abstract_word false = codes "concrete"

-- `class NAME BASE abstract` or `class NAME BASE concrete`
abbrev pub class_line : Schema → ClassInfo → List ℕ
class_line schema class =
    codes "class " ++ (class.name
    ++ (codes " " ++ (base_word schema class ++ (codes " " ++ (abstract_word class.is_abstract ++ line_end)))))

-- how many slots a class inherits
abbrev pub inherited_slots : Schema → ClassInfo → ℕ
inherited_slots schema class = option_map_or (λ base. length (slots schema.classes base)) (base_number class) 0

-- the slots that a class declares and does not override: an overriding action has the slot of the one that it overrides
abbrev pub own_slots : Schema → ClassInfo → List SlotInfo
own_slots schema class = drop (inherited_slots schema class) class.slots

-- a class, and behind it its own slots
abbrev pub class_text : Schema → ClassInfo → List ℕ
class_text schema class = class_line schema class ++ flat_map slot_line (own_slots schema class)

-- the text of the type of a number in a kit; where there is none, nothing
unfoldable pub type_text : Schema → ℕ → ℕ → List ℕ
type_text schema kit number =
    option_map_or (λ class. option_map_or (class_text schema) (slice_get schema.classes class) [])
    (type_at schema.classes kit number) []

-- the texts of the types below a number
unfoldable pub types_text : Schema → ℕ → ℕ → List ℕ
types_text schema kit zero = []
types_text schema kit (suc number) = types_text schema kit number ++ type_text schema kit number

-- `kit NAME`
abbrev pub kit_line : Schema → ℕ → List ℕ
kit_line schema kit = codes "kit " ++ (kit_name schema.kits kit ++ line_end)

-- a kit, and behind it its classes by their numbers, each of which is a byte
abbrev pub canonical_text : Schema → ℕ → List ℕ
canonical_text schema kit = kit_line schema kit ++ types_text schema kit 256
