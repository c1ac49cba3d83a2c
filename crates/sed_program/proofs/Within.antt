-- What a name stands for is a class that is there.
use Rattle.std.proofs.Common.{◌≡◌, ◌<◌, ◌==◌, ◌||◌, ℕ, Bool, true, false, if◌then◌else◌, List, [], ◌∷◌, length, Option, Some, None, arith}
use Rattle.std.specs.Option.{option_and_then, option_or}
use Rattle.sed_units.specs.declared.leaves.Ident.{Ident}
use Rattle.sed_units.specs.declared.leaves.TypeName.{TypeName}
use Rattle.sed_classes.specs.declared.kit_units.KitUnits.{KitUnits}
use Rattle.sed_classes.specs.Declarations.{Declaration, all_classes, class_at}
use Rattle.sed_classes.specs.Bases.{base_of, base_written}
use Rattle.sed_classes.specs.Names.{class_among, class_in, class_in_named, class_named, class_of_name, depends_of, is_buffer_name, is_named, is_text_name, kit_numbered, may_name}
use Rattle.sed_outline.proofs.Orders.{others}
use Rattle.sed_program.proofs.OrderLists.{position_within}

-- a place, if there is one, is that of a class
abbrev pub Within : List KitUnits → Option ℕ → Type 0
Within units o = (class : ℕ) → o ≡ Some class → class < length (all_classes units)

none_within : (units : List KitUnits) → Within units None
none_within units class e = cc

or_within : (units : List KitUnits) (a b : Option ℕ) → Within units a → Within units b → Within units (option_or a b)
or_within units None b p q = q
or_within units (Some x) b p q = p

if_within : (units : List KitUnits) (t : Bool) (a b : Option ℕ) → Within units a → Within units b →
    Within units (if t then a else b)
if_within units true a b p q = p
if_within units false a b p q = q

in_within : (units : List KitUnits) (name : List ℕ) (kit : ℕ) → Within units (class_in units name kit)
in_within units name kit class e = position_within (is_named name kit) (all_classes units) class e

in_named_within : (units : List KitUnits) (name kit : List ℕ) → Within units (class_in_named units name kit)
in_named_within units name kit = by_kit (kit_numbered units kit)
  where
    by_kit : (o : Option ℕ) → Within units (option_and_then (class_in units name) o)
    by_kit None = none_within units
    by_kit (Some k) = in_within units name k

among_within : (units : List KitUnits) (name : List ℕ) (kits : List (List ℕ)) →
    Within units (class_among units name kits)
among_within units name [] = in_within units name 0
among_within units name (kit ∷ kits) =
    or_within
    units
    (class_in_named units name kit)
    (class_among units name kits)
    (in_named_within units name kit)
    (among_within units name kits)

named_within : (units : List KitUnits) (kit : ℕ) (other : Option Ident) (name : List ℕ) →
    Within units (class_named units kit other name)
named_within units kit None name =
    or_within
    units
    (class_in units name kit)
    (class_among units name (depends_of units kit))
    (in_within units name kit)
    (among_within units name (depends_of units kit))
named_within units kit (Some other) name =
    if_within
    units
    (may_name units kit other.bytes)
    (class_in_named units name other.bytes)
    None
    (in_named_within units name other.bytes)
    (none_within units)

pub name_within : (units : List KitUnits) (kit : ℕ) (name : TypeName) → Within units (class_of_name units kit name)
name_within units kit name = named_within units kit name.kit name.id.bytes

written_within : (units : List KitUnits) (class kit : ℕ) (name : Option TypeName) →
    Within units (base_written units class kit name)
written_within units class kit None =
    if_within units (class == 0) None (Some 0) (none_within units) (λ c e. let z : 0
    ≡ c = cc in omega (arith, z, others units))
written_within units class kit (Some name) = by_tests (is_text_name name) (is_buffer_name name)
  where
    by_tests : (a b : Bool) → Within units (if (a || b) then None else class_of_name units kit name)
    by_tests true b = none_within units
    by_tests false true = none_within units
    by_tests false false = name_within units kit name

pub base_within : (units : List KitUnits) (class : ℕ) → Within units (base_of units class)
base_within units class = by_class (class_at units class)
  where
    by_class : (o : Option Declaration) → Within units (option_and_then (λ
        (d : Declaration). base_written units class d.kit d.class.base) o)
    by_class None = none_within units
    by_class (Some d) = written_within units class d.kit d.class.base
