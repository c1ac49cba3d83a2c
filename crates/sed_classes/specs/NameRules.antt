-- Rules on names and bases. Each gives the faults of a class: where it breaks it.
use Rattle.std.specs.Prelude.{ℕ, Bool, true, false, not, ◌==◌, ◌&&◌, ◌||◌, List, [], ◌∷◌, ◌++◌, take, is_some, Option}
use Rattle.std.specs.Prelude.{Some, None, codes}
use Rattle.std.specs.List.{list_any, flat_map}
use Rattle.std.specs.Option.{option_map_or}
use Rattle.std.specs.Str.{bytes_eq}
use Rattle.sed_units.specs.declared.leaves.Base.{Base}
use Rattle.sed_units.specs.declared.leaves.Base.TheVariants as base
use Rattle.sed_units.specs.declared.leaves.TypeName.{TypeName}
use Rattle.sed_units.specs.declared.leaves.TypeRef.{TypeRef}
use Rattle.sed_typed.specs.TypedSchema.{is_reserved}
use Rattle.sed_classes.specs.declared.kit_units.KitUnits.{KitUnits}
use Rattle.sed_faults.specs.declared.fault.Fault.{Fault}
use Rattle.sed_classes.specs.Declarations.{Declaration, all_classes}
use Rattle.sed_classes.specs.SysSource.{app_class}
use Rattle.sed_classes.specs.Names.{class_of_name, is_named, is_text_name, is_buffer_name}
use Rattle.sed_classes.specs.Bases.{base_named, leads_back}
use Rattle.sed_faults.specs.Faults.{broken_if}

-- ---- 1: a type name has a class, or is `Str` or `Buf`

-- a type name in a kit that stands for nothing
abbrev pub is_without_class : List KitUnits → ℕ → TypeName → Bool
is_without_class units kit name =
    not (is_text_name name) && not (is_buffer_name name) && not (is_some (class_of_name units kit name))

abbrev pub name_without_class : List KitUnits → ℕ → TypeName → List Fault
name_without_class units kit name = broken_if (is_without_class units kit name) 1 name.at

-- behind `extends`
abbrev pub base_without_class : List KitUnits → ℕ → Option TypeName → List Fault
base_without_class units kit None = []
base_without_class units kit (Some name) = name_without_class units kit name

-- in the type of a member, a parameter or a local
abbrev pub base_type_without_class : List KitUnits → ℕ → Base → List Fault
base_type_without_class units kit (base.Primitive p) = []
base_type_without_class units kit base.Void = []
base_type_without_class units kit (base.Named name) = name_without_class units kit name

abbrev pub type_without_class : List KitUnits → ℕ → TypeRef → List Fault
type_without_class units kit t = base_type_without_class units kit t.base

-- ---- 2: a class has a name of its own in its kit, and none of these

-- a class before the one at this place is of its kit and has its name
abbrev pub is_named_before : List KitUnits → ℕ → Declaration → Bool
is_named_before units class d = list_any (is_named d.class.name.bytes d.kit) (take class (all_classes units))

abbrev pub class_name_not_free : List KitUnits → ℕ → Declaration → List Fault
class_name_not_free units class d =
    broken_if (is_reserved d.class.name.bytes || is_named_before units class d) 2 d.class.at

-- ---- 3: no base leads back to its class, or is `App`, `Str` or `Buf`

abbrev pub is_app : Option ℕ → Bool
is_app place = option_map_or (λ b. b == app_class) place false

-- what stands behind `extends` of the class at a place is no base for it
abbrev pub is_no_base : List KitUnits → ℕ → ℕ → TypeName → Bool
is_no_base units class kit name =
    is_text_name name || is_buffer_name name || is_app (base_named units kit name) || leads_back units class

abbrev pub base_unfit : List KitUnits → ℕ → ℕ → Option TypeName → List Fault
base_unfit units class kit None = []
base_unfit units class kit (Some name) = broken_if (is_no_base units class kit name) 3 name.at

abbrev pub base_not_fit : List KitUnits → ℕ → Declaration → List Fault
base_not_fit units class d = base_unfit units class d.kit d.class.base
