-- Rules on members and on what they override. Each gives the faults of a class or a member: where it breaks it.
use Rattle.std.specs.Prelude.{ℕ, Bool, true, false, not, ◌==◌, ◌&&◌, ◌||◌, if◌then◌else◌, List, [], ◌∷◌, length, take}
use Rattle.std.specs.Prelude.{is_some, Option, Some, None, codes}
use Rattle.std.specs.List.{list_all, list_any, zip}
use Rattle.std.specs.Option.{option_map_or}
use Rattle.sed_units.specs.declared.leaves.ModifierWord.TheVariants as word
use Rattle.sed_units.specs.declared.leaves.Param.{Param}
use Rattle.sed_units.specs.declared.classes.Class.{Class}
use Rattle.sed_units.specs.declared.classes.Member.{Member}
use Rattle.sed_classes.specs.declared.kit_units.KitUnits.{KitUnits}
use Rattle.sed_faults.specs.declared.fault.Fault.{Fault}
use Rattle.sed_classes.specs.declared.source_type.SourceType.{SourceType}
use Rattle.sed_classes.specs.Declarations.{Declaration}
use Rattle.sed_classes.specs.SysSource.{virtual_class, component_class}
use Rattle.sed_classes.specs.Bases.{bases, is_below, lineage}
use Rattle.sed_classes.specs.Types.{type_of, is_same_type, is_unknown, is_void, is_property_type, is_argument_type}
use Rattle.sed_classes.specs.Members.{Owned, has_word, has_name, is_abstract_class, is_method, is_property, is_action}
use Rattle.sed_classes.specs.Members.{is_open, overrides, form_params, form_body, inherits, kit_of, members_of, nearest}
use Rattle.sed_faults.specs.Faults.{broken_if}

-- ---- 4: a member has a name of its own in its class

abbrev pub name_repeated : Declaration → ℕ → Member → List Fault
name_repeated d i m = broken_if (list_any (has_name m.name.bytes) (take i d.class.members)) 4 m.at

-- ---- 5: a member that has the name of an inherited one says `override`

abbrev pub inherited_name_taken : List KitUnits → ℕ → Member → List Fault
inherited_name_taken units class m = broken_if (not (overrides m) && inherits units class m.name.bytes) 5 m.at

-- ---- 6: what says `override` has something to override

abbrev pub same_truth : Bool → Bool → Bool
same_truth true b = b
same_truth false b = not b

-- a parameter of a method of one kit and one of a method of another have equal types
abbrev pub is_same_param : List KitUnits → ℕ → ℕ → Param × Param → Bool
is_same_param units kit other pair = is_same_type (type_of units kit pair.0.kind) (type_of units other pair.1.kind)

-- as many parameters, and equal types one by one
abbrev pub same_params : List KitUnits → ℕ → List Param → ℕ → List Param → Bool
same_params units kit ps other qs = (length ps == length qs) && list_all (is_same_param units kit other) (zip ps qs)

-- a method of one kit may override one of another: of its name, kind, result and parameters, and open to that
abbrev pub fits : List KitUnits → ℕ → Member → ℕ → Member → Bool
fits units kit m other n =
    is_open n
    && has_name m.name.bytes n
    && same_truth (is_action m) (is_action n)
    && is_same_type (type_of units kit m.kind) (type_of units other n.kind)
    && same_params units kit (form_params m.form) other (form_params n.form)

-- a class has a method that it may override
abbrev pub fits_one_of : List KitUnits → ℕ → Member → ℕ → Bool
fits_one_of units kit m class = list_any (fits units kit m (kit_of units class)) (members_of units class)

abbrev pub overrides_nothing : List KitUnits → ℕ → ℕ → Member → List Fault
overrides_nothing units class kit m =
    broken_if (overrides m && not (is_method m && list_any (fits_one_of units kit m) (bases units class))) 6 m.at

-- ---- 7: virtual and abstract methods

abbrev pub is_abstract_method : Member → Bool
is_abstract_method m = is_method m && has_word word.Abstract m.modifiers

-- only below `Virtual` a method says `virtual`, `abstract` or `override`
abbrev pub is_virtual_elsewhere : List KitUnits → ℕ → Member → Bool
is_virtual_elsewhere units class m =
    (has_word word.Virtual m.modifiers || has_word word.Abstract m.modifiers || overrides m)
    && not (is_below units virtual_class class)

-- only a class that is abstract declares an abstract method
abbrev pub is_abstract_elsewhere : Class → Member → Bool
is_abstract_elsewhere c m = has_word word.Abstract m.modifiers && not (is_abstract_class c)

-- a method has a body exactly where it is not abstract
abbrev pub has_wrong_body : Member → Bool
has_wrong_body m = same_truth (is_some (form_body m.form)) (has_word word.Abstract m.modifiers)

-- the method that a name stands for has no body to be run
abbrev pub is_abstract_owned : Option Owned → Bool
is_abstract_owned None = false
is_abstract_owned (Some o) = is_abstract_method o.member

-- a member's name stands for an abstract method in a class
abbrev pub is_named_abstract : List KitUnits → ℕ → Member → Bool
is_named_abstract units class m = is_abstract_owned (nearest units class m.name.bytes)

-- a name of a member at or above a class stands for an abstract method
abbrev pub reaches_abstract : List KitUnits → ℕ → Bool
reaches_abstract units class =
    list_any (λ c. list_any (is_named_abstract units class) (members_of units c)) (lineage units class)

-- a class declares an abstract method, or inherits one that nothing nearer overrides
abbrev pub has_abstract_method : List KitUnits → ℕ → Bool
has_abstract_method units class = list_any is_abstract_method (members_of units class) || reaches_abstract units class

abbrev pub class_not_runnable : List KitUnits → ℕ → Declaration → List Fault
class_not_runnable units class d =
    broken_if (not (is_abstract_class d.class) && has_abstract_method units class) 7 d.class.at

abbrev pub method_not_runnable : List KitUnits → ℕ → Declaration → Member → List Fault
method_not_runnable units class d m =
    broken_if
    (is_method m && (is_virtual_elsewhere units class m || is_abstract_elsewhere d.class m || has_wrong_body m))
    7 m.at

-- ---- 8: properties and actions

-- a type that is known, and is none of those of properties
abbrev pub is_no_property_type : SourceType → Bool
is_no_property_type t = not (is_unknown t) && not (is_property_type t)

abbrev pub is_no_argument : SourceType → Bool
is_no_argument t = not (is_unknown t) && not (is_argument_type t)

-- the parameters of an action: none, or one of bool, int or long
abbrev pub are_no_arguments : List KitUnits → ℕ → List Param → Bool
are_no_arguments units kit [] = false
are_no_arguments units kit (p ∷ []) = is_no_argument (type_of units kit p.kind)
are_no_arguments units kit (p ∷ q ∷ ps) = true

abbrev pub is_no_answer : SourceType → Bool
is_no_answer t = not (is_unknown t) && not (is_void t)

abbrev pub is_no_action : List KitUnits → ℕ → Member → Bool
is_no_action units kit m = is_no_answer (type_of units kit m.kind) || are_no_arguments units kit (form_params m.form)

abbrev pub is_slot_elsewhere : List KitUnits → ℕ → Member → Bool
is_slot_elsewhere units class m = (is_property m || is_action m) && not (is_below units component_class class)

abbrev pub is_wrong_property : List KitUnits → ℕ → Member → Bool
is_wrong_property units kit m = is_property m && is_no_property_type (type_of units kit m.kind)

abbrev pub is_wrong_action : List KitUnits → ℕ → Member → Bool
is_wrong_action units kit m = is_action m && is_no_action units kit m

abbrev pub is_no_slot : List KitUnits → ℕ → ℕ → Member → Bool
is_no_slot units class kit m =
    is_slot_elsewhere units class m || is_wrong_property units kit m || is_wrong_action units kit m

abbrev pub slot_not_fit : List KitUnits → ℕ → ℕ → Member → List Fault
slot_not_fit units class kit m = broken_if (is_no_slot units class kit m) 8 m.at
