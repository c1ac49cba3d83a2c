-- Fields, inline objects and their sizes.
use Rattle.std.specs.Prelude.{ℕ, zero, suc, ◌+◌, ◌*◌, Bool, true, false, not, ◌==◌, ◌&&◌, ◌||◌, if◌then◌else◌, List, []}
use Rattle.std.specs.Prelude.{◌∷◌, length, sum_by, Option, Some, None}
use Rattle.std.specs.List.{list_any}
use Rattle.std.specs.Option.{option_map_or}
use Rattle.sed_value.specs.SlotType.{width_of}
use Rattle.sed_units.specs.declared.leaves.ModifierWord.TheVariants as word
use Rattle.sed_units.specs.declared.classes.Member.{Member}
use Rattle.sed_classes.specs.declared.kit_units.KitUnits.{KitUnits}
use Rattle.sed_classes.specs.declared.source_type.SourceType.{SourceType}
use Rattle.sed_classes.specs.declared.source_type.SourceType.TheVariants.{Prim, SizedText, Buf, Array, Object}
use Rattle.sed_classes.specs.Declarations.{all_classes}
use Rattle.sed_classes.specs.Bases.{lineage}
use Rattle.sed_classes.specs.Types.{type_of, is_property_type, is_field_type}
use Rattle.sed_classes.specs.Members.{kit_of, members_of, has_word, is_method, is_property, is_instance_field}

abbrev pub is_inline : Member → Bool
is_inline m = has_word word.Inline m.modifiers

-- a class declares or inherits an instance field
abbrev pub declares_field : List KitUnits → ℕ → Bool
declares_field units class = list_any is_instance_field (members_of units class)

abbrev pub has_field : List KitUnits → ℕ → Bool
has_field units class = list_any (declares_field units) (lineage units class)

abbrev pub object_in : SourceType → Option ℕ
object_in (Object class) = Some class
object_in t = None

-- the class of a member that is an inline object
abbrev pub inline_class : List KitUnits → ℕ → Member → Option ℕ
inline_class units kit m = if not (is_method m) && is_inline m then object_in (type_of units kit m.kind) else None

-- an instance field is an inline object of a class that passes a test
abbrev pub holds_by : (ℕ → Bool) → List KitUnits → ℕ → Member → Bool
holds_by passes units kit m = is_instance_field m && option_map_or passes (inline_class units kit m) false

-- a class itself declares one
abbrev pub declares_by : (ℕ → Bool) → List KitUnits → ℕ → Bool
declares_by passes units class = list_any (holds_by passes units (kit_of units class)) (members_of units class)

-- an object of the one class stands in an object of the other, at most so many deep
abbrev pub holds_within : List KitUnits → ℕ → ℕ → ℕ → Bool
holds_within units zero inner class = false
holds_within units (suc depth) inner class =
    list_any (declares_by (λ h. (h == inner) || holds_within units depth inner h) units) (lineage units class)

-- an object of the class would stand in itself
abbrev pub holds_itself : List KitUnits → ℕ → Bool
holds_itself units class = holds_within units (length (all_classes units)) class class

-- ---- sizes in bytes

abbrev pub type_size : (ℕ → ℕ) → SourceType → ℕ
type_size object (Prim p) = width_of p
type_size object (SizedText n) = n
type_size object (Buf n) = n + 2
type_size object (Array p n) = n * width_of p
type_size object (Object class) = object class
type_size object t = 0

-- a field that is of one of the forms of fields
abbrev pub has_form : List KitUnits → ℕ → Member → Bool
has_form units kit m =
    if is_property m then is_property_type (type_of units kit m.kind)
    else is_field_type (is_inline m) (type_of units kit m.kind)

-- the size of a field; of one that is of no form, 0
abbrev pub field_size : List KitUnits → (ℕ → ℕ) → ℕ → Member → ℕ
field_size units object kit m = if has_form units kit m then type_size object (type_of units kit m.kind) else 0

-- what a member takes of its object's data
abbrev pub data_of : List KitUnits → (ℕ → ℕ) → ℕ → Member → ℕ
data_of units object kit m = if is_instance_field m then field_size units object kit m else 0

-- what the members that a class itself declares take
abbrev pub own_size : List KitUnits → (ℕ → ℕ) → ℕ → ℕ
own_size units object class = sum_by (data_of units object (kit_of units class)) (members_of units class)

-- The size of an object of a class, objects standing in one another at most so deep. One that would stand in itself
-- has none.
abbrev pub size_within : List KitUnits → ℕ → ℕ → ℕ
size_within units zero class = 0
size_within units (suc depth) class =
    if holds_itself units class then 0 else sum_by (own_size units (size_within units depth)) (lineage units class)

-- the data size of a class
abbrev pub data_size : List KitUnits → ℕ → ℕ
data_size units class = size_within units (length (all_classes units)) class
