-- The faults of units against the rules on classes and members, and the first of several faults.
use Rattle.std.specs.Prelude.{ℕ, ◌+◌, Bool, ◌==◌, ◌&&◌, ◌||◌, nat_lt, if◌then◌else◌, List, [], ◌∷◌, ◌++◌, drop, map}
use Rattle.std.specs.Prelude.{Option, Some, None}
use Rattle.std.specs.List.{flat_map}
use Rattle.sed_units.specs.declared.leaves.Param.{Param}
use Rattle.sed_units.specs.declared.classes.Member.{Member}
use Rattle.sed_faults.specs.declared.fault.Fault.{Fault}
use Rattle.sed_classes.specs.declared.kit_units.KitUnits.{KitUnits}
use Rattle.sed_classes.specs.declared.source_type.PlacedFault.{PlacedFault}
use Rattle.sed_classes.specs.Declarations.{Declaration, all_classes}
use Rattle.sed_classes.specs.Members.{form_params}
use Rattle.sed_classes.specs.NameRules.{type_without_class, base_without_class, class_name_not_free, base_not_fit}
use Rattle.sed_classes.specs.MemberRules.{name_repeated, inherited_name_taken, overrides_nothing, class_not_runnable}
use Rattle.sed_classes.specs.MemberRules.{method_not_runnable, slot_not_fit}
use Rattle.sed_classes.specs.FieldRules.{object_not_fit, member_not_fit, param_not_fit, value_not_fit}
use Rattle.sed_classes.specs.LimitRules.{too_many_types, too_many_params, too_many_methods, too_many_virtual}
use Rattle.sed_classes.specs.LimitRules.{too_many_slots, too_large_config, too_large_runtime, too_much_data}
use Rattle.sed_classes.specs.LimitRules.{too_many_statics, too_long_in_class, too_long_in_member, too_long_in_param}
use Rattle.sed_faults.specs.Faults.{said_from}

-- the faults of a parameter of a method in a kit, by its number
abbrev pub param_faults : List KitUnits → ℕ → ℕ → Param → List Fault
param_faults units kit i p =
    type_without_class units kit p.kind ++ param_not_fit units kit p ++ too_many_params i p ++ too_long_in_param p

-- ---- what is seen of names, words and types alone

abbrev pub member_name_faults : List KitUnits → ℕ → Declaration → ℕ → Member → List Fault
member_name_faults units class d i m =
    type_without_class units d.kit m.kind ++ name_repeated d i m ++ inherited_name_taken units class m
    ++ overrides_nothing units class d.kit m

abbrev pub member_word_faults : List KitUnits → ℕ → Declaration → Member → List Fault
member_word_faults units class d m =
    method_not_runnable units class d m ++ slot_not_fit units class d.kit m ++ member_not_fit units d.kit m
    ++ too_long_in_member m

abbrev pub params_faults : List KitUnits → ℕ → Member → List Fault
params_faults units kit m = said_from (param_faults units kit) 0 (form_params m.form)

-- of a member, by its number in the class at a place
abbrev pub member_form_faults : List KitUnits → ℕ → Declaration → ℕ → Member → List Fault
member_form_faults units class d i m =
    member_name_faults units class d i m ++ member_word_faults units class d m ++ params_faults units d.kit m

-- of a class itself
abbrev pub class_name_faults : List KitUnits → ℕ → Declaration → List Fault
class_name_faults units class d =
    base_without_class units d.kit d.class.base ++ class_name_not_free units class d ++ base_not_fit units class d

abbrev pub class_form_faults : List KitUnits → ℕ → Declaration → List Fault
class_form_faults units class d =
    class_name_faults units class d ++ class_not_runnable units class d ++ too_many_types d ++ too_long_in_class d.class

-- of a class and its members
abbrev pub form_faults : List KitUnits → ℕ → Declaration → List Fault
form_faults units class d =
    class_form_faults units class d ++ said_from (member_form_faults units class d) 0 d.class.members

-- ---- what is counted of members, inherited ones among them

abbrev pub count_faults : List KitUnits → ℕ → Declaration → List Fault
count_faults units class d =
    said_from (too_many_methods d) 0 d.class.members
    ++ said_from (too_many_virtual units class d) 0 d.class.members
    ++ said_from (too_many_slots units class d) 0 d.class.members
    ++ said_from (too_large_config units class d) 0 d.class.members
    ++ said_from (too_large_runtime units class d) 0 d.class.members

-- ---- what is seen of objects, values and sizes

abbrev pub value_faults : List KitUnits → ℕ → Declaration → List Fault
value_faults units class d =
    flat_map (object_not_fit units d.kit) d.class.members
    ++ flat_map (value_not_fit units class d.kit) d.class.members
    ++ said_from (too_much_data units class d) 0 d.class.members
    ++ said_from (too_many_statics units class d) 0 d.class.members

-- ---- all that a class declares

abbrev pub declaration_faults : List KitUnits → ℕ → Declaration → List Fault
declaration_faults units class d = form_faults units class d ++ count_faults units class d ++ value_faults units class d

-- ---- the faults of what the classes of a program declare

-- a fault in the text in which a class is declared
abbrev pub placed_in : Declaration → Fault → PlacedFault
placed_in d f = record { kit = d.kit; text = d.text; at = f.at; rule = f.rule }

-- those of a row of classes, the first of which is at this place
abbrev pub faults_from : List KitUnits → ℕ → List Declaration → List PlacedFault
faults_from units class [] = []
faults_from units class (d ∷ ds) =
    map (placed_in d) (declaration_faults units class d) ++ faults_from units (class + 1) ds

-- those of the classes that the units declare
abbrev pub faults_of : List KitUnits → List PlacedFault
faults_of units = faults_from units 5 (drop 5 (all_classes units))

-- of two numbers the lesser first, and where they are equal what comes next
abbrev pub by : ℕ → ℕ → Bool → Bool
by a b next = nat_lt a b || ((a == b) && next)

-- the order of faults: by kit, then by text, then by place, then by rule
abbrev pub is_before : PlacedFault → PlacedFault → Bool
is_before a b = by a.kit b.kit (by a.text b.text (by a.at b.at (nat_lt a.rule b.rule)))

abbrev pub first_of : List PlacedFault → Option PlacedFault
first_of [] = None
first_of (f ∷ fs) = first_of_two f (first_of fs)
  where
    first_of_two : PlacedFault → Option PlacedFault → Option PlacedFault
    first_of_two f None = Some f
    first_of_two f (Some g) = Some (if is_before g f then g else f)
