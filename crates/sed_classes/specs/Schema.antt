-- The schema of units.
use Rattle.std.specs.Prelude.{ℕ, ◌+◌, ℤ, pos, zero, suc, Bool, true, false, ◌==◌, List, [], ◌∷◌, ◌++◌, length, map}
use Rattle.std.specs.Prelude.{position, slice_get, Option, Some, None, codes}
use Rattle.std.specs.List.{filter_map, enumerate_from}
use Rattle.std.specs.Option.{option_and_then, option_map}
use Rattle.sed_value.specs.declared.kit.KitRef.{KitRef}
use Rattle.sed_typed.specs.declared.number.TypeNo.{TypeNo}
use Rattle.sed_typed.specs.declared.schema.ClassInfo.{ClassInfo}
use Rattle.sed_typed.specs.declared.schema.Schema.{Schema}
use Rattle.sed_classes.specs.Checksum.{kit_checksum}
use Rattle.sed_classes.specs.declared.kit_units.KitUnits.{KitUnits}
use Rattle.sed_classes.specs.Declarations.{Declaration, declared_in, all_classes, class_at}
use Rattle.sed_classes.specs.SysSource.{component_class}
use Rattle.sed_classes.specs.Bases.{base_of, bases, is_below}
use Rattle.sed_classes.specs.Members.{is_abstract_class}
use Rattle.sed_classes.specs.Objects.{data_size}
use Rattle.sed_classes.specs.Slots.{slots}

-- ---- the order of classes

-- a class by its place, if it has so many bases
abbrev pub at_if : Bool → ℕ → List ℕ
at_if true class = class ∷ []
at_if false class = []

-- of the first so many classes that the units declare, those with so many bases
abbrev pub first_with : List KitUnits → ℕ → ℕ → List ℕ
first_with units n zero = []
first_with units n (suc i) = first_with units n i ++ at_if (length (bases units (5 + i)) == n) (5 + i)

-- all of them
abbrev pub with_bases : List KitUnits → ℕ → List ℕ
with_bases units n = first_with units n (length (declared_in units))

-- The places of classes in the order of the schema: the types of `sys`, and then the others, those with fewer bases
-- first, else as they are declared. So each base stands before the classes based on it.
abbrev pub order_below : List KitUnits → ℕ → List ℕ
order_below units zero = 0 ∷ 1 ∷ 2 ∷ 3 ∷ 4 ∷ []
order_below units (suc n) = order_below units n ++ with_bases units n

-- no class has as many bases as there are classes
abbrev pub class_order : List KitUnits → List ℕ
class_order units = order_below units (length (all_classes units))

-- the number that the class at a place has in the schema
abbrev pub type_number : List KitUnits → ℕ → Option ℕ
type_number units class = position (λ c. c == class) (class_order units)

-- ---- classes

abbrev pub class_info : List KitUnits → ℕ → Declaration → ClassInfo
class_info units class d = record {
  kit = d.kit;
  number = d.number;
  name = d.class.name.bytes;
  base = option_map numbered (option_and_then (type_number units) (base_of units class));
  is_abstract = is_abstract_class d.class;
  is_component = is_below units component_class class;
  size = data_size units class;
  slots = slots units class;
}
  where
    numbered : ℕ → TypeNo
    numbered n = record { 0 = n }

abbrev pub class_infos : List KitUnits → List ClassInfo
class_infos units = filter_map (λ class. option_map (class_info units class) (class_at units class)) (class_order units)

-- ---- kits

-- the names of the kits by their numbers
abbrev pub kit_names : List KitUnits → List (List ℕ)
kit_names units = codes "sys" ∷ map (λ k. k.kit) units

abbrev pub unsigned_kit : List ℕ → KitRef
unsigned_kit name = record { name = name; checksum = pos 0 }

-- the kits and classes, where checksums are 0: no canonical text names a checksum
abbrev pub outline : List KitUnits → Schema
outline units = record { kits = map unsigned_kit (kit_names units); classes = class_infos units }

abbrev pub signed_kit : List KitUnits → ℕ × List ℕ → KitRef
signed_kit units e = record { name = e.1; checksum = kit_checksum (outline units) e.0 }

abbrev pub kit_refs : List KitUnits → List KitRef
kit_refs units = map (signed_kit units) (enumerate_from 0 (kit_names units))

abbrev pub schema_of : List KitUnits → Schema
schema_of units = record { kits = kit_refs units; classes = class_infos units }
