-- The limits on classes, members, sizes and names. Each gives the faults of a class, a member or a parameter: where
-- it passes it. A limit is passed at one place: at the declaration or literal that is one too many, or that makes a
-- sum too large.
use Rattle.std.specs.Prelude.{ℕ, zero, suc, ◌+◌, ◌*◌, ◌==◌, ◌&&◌, ◌||◌, Bool, true, false, not, nat_lt, nat_le}
use Rattle.std.specs.Prelude.{if◌then◌else◌, List, [], ◌∷◌, ◌++◌, count_by, filter, length, map, sum_by, take, Option}
use Rattle.std.specs.Prelude.{Some, None}
use Rattle.std.specs.List.{list_any, flat_map, enumerate_from}
use Rattle.std.specs.Str.{bytes_eq}
use Rattle.sed_units.specs.declared.leaves.Facet.{Facet}
use Rattle.sed_units.specs.declared.leaves.Ident.{Ident}
use Rattle.sed_units.specs.declared.leaves.Init.{Init}
use Rattle.sed_units.specs.declared.leaves.InitValue.{InitValue}
use Rattle.sed_units.specs.declared.leaves.InitValue.TheVariants as init
use Rattle.sed_units.specs.declared.leaves.Param.{Param}
use Rattle.sed_units.specs.declared.leaves.Base.{Base}
use Rattle.sed_units.specs.declared.leaves.Base.TheVariants as base
use Rattle.sed_units.specs.declared.leaves.TypeName.{TypeName}
use Rattle.sed_units.specs.declared.leaves.TypeRef.{TypeRef}
use Rattle.sed_units.specs.declared.classes.Class.{Class}
use Rattle.sed_units.specs.declared.classes.Member.{Member}
use Rattle.sed_typed.specs.declared.schema.SlotForm.{SlotForm}
use Rattle.sed_typed.specs.Sizes.{value_size}
use Rattle.sed_classes.specs.declared.kit_units.KitUnits.{KitUnits}
use Rattle.sed_faults.specs.declared.fault.Fault.{Fault}
use Rattle.sed_classes.specs.Declarations.{Declaration, all_classes}
use Rattle.sed_classes.specs.Bases.{bases}
use Rattle.sed_classes.specs.Members.{kit_of, members_of, form_params, form_value, is_instance_field, is_static_field}
use Rattle.sed_classes.specs.Members.{is_method, is_open, overrides}
use Rattle.sed_classes.specs.Objects.{data_of, field_size, data_size}
use Rattle.sed_classes.specs.Slots.{shape_of}
use Rattle.sed_faults.specs.Faults.{broken_if}

-- a sum that was within a bound passes it
abbrev pub passes : ℕ → ℕ → ℕ → Bool
passes most before more = nat_le before most && nat_lt most (before + more)

-- ---- sums over the members of a class, each of which counts by its kit and what it is

-- what the members that a class itself declares come to
abbrev pub own_sum : (ℕ → Member → ℕ) → List KitUnits → ℕ → ℕ
own_sum count units class = sum_by (count (kit_of units class)) (members_of units class)

-- what the members before the one of a number come to, inherited ones and the class's own
abbrev pub sum_before : (ℕ → Member → ℕ) → List KitUnits → ℕ → Declaration → ℕ → ℕ
sum_before count units class d i =
    sum_by (own_sum count units) (bases units class) + sum_by (count d.kit) (take i d.class.members)

-- the member of this number is the one with which the sum over inherited and own members passes a bound
abbrev pub passes_at : ℕ → (ℕ → Member → ℕ) → List KitUnits → ℕ → Declaration → ℕ → Member → Bool
passes_at most count units class d i m = passes most (sum_before count units class d i) (count d.kit m)

abbrev pub one_if : Bool → ℕ
one_if true = 1
one_if false = 0

-- ---- classes and members

-- 64 types in a kit
abbrev pub too_many_types : Declaration → List Fault
too_many_types d = broken_if (d.number == 64) 22 d.class.at

-- 60 methods that a class itself declares, actions among them
abbrev pub too_many_methods : Declaration → ℕ → Member → List Fault
too_many_methods d i m =
    broken_if (passes 60 (count_by is_method (take i d.class.members)) (one_if (is_method m))) 22 m.at

-- 8 parameters; and 64 locals, parameters among them
abbrev pub too_many_params : ℕ → Param → List Fault
too_many_params i p = broken_if ((i == 8) || (i == 64)) 22 p.at

-- 255 virtual methods, inherited ones among them; what overrides one is none more
abbrev pub new_virtual : ℕ → Member → ℕ
new_virtual kit m = one_if (is_open m && not (overrides m))

abbrev pub too_many_virtual : List KitUnits → ℕ → Declaration → ℕ → Member → List Fault
too_many_virtual units class d i m = broken_if (passes_at 255 new_virtual units class d i m) 22 m.at

-- 64 slots, inherited ones among them
abbrev pub slot_count : Option (Bool × SlotForm) → ℕ
slot_count None = 0
slot_count (Some s) = 1

abbrev pub too_many_slots : List KitUnits → ℕ → Declaration → ℕ → Member → List Fault
too_many_slots units class d i m =
    broken_if (passes_at 64 (λ kit n. slot_count (shape_of units kit n)) units class d i m) 22 m.at

-- ---- sizes in bytes

-- 65,535 of data in an object, inherited fields among them
abbrev pub too_much_data : List KitUnits → ℕ → Declaration → ℕ → Member → List Fault
too_much_data units class d i m =
    broken_if (passes_at 65535 (data_of units (data_size units)) units class d i m) 22 m.at

-- what a property's value takes where it is written out
abbrev pub config_of : Option (Bool × SlotForm) → ℕ
config_of None = 0
config_of (Some s) = if s.0 then value_size s.1 else 0

abbrev pub runtime_of : Option (Bool × SlotForm) → ℕ
runtime_of None = 0
runtime_of (Some s) = if s.0 then 0 else value_size s.1

-- 400 of config values in a class
abbrev pub too_large_config : List KitUnits → ℕ → Declaration → ℕ → Member → List Fault
too_large_config units class d i m =
    broken_if (passes_at 400 (λ kit n. config_of (shape_of units kit n)) units class d i m) 22 m.at

-- and 400 of runtime values
abbrev pub too_large_runtime : List KitUnits → ℕ → Declaration → ℕ → Member → List Fault
too_large_runtime units class d i m =
    broken_if (passes_at 400 (λ kit n. runtime_of (shape_of units kit n)) units class d i m) 22 m.at

-- ---- statics

abbrev pub static_of : List KitUnits → ℕ → Member → ℕ
static_of units kit m = if is_static_field m then field_size units (data_size units) kit m else 0

-- what the statics of a class take
abbrev pub statics_of : List KitUnits → Declaration → ℕ
statics_of units d = sum_by (static_of units d.kit) d.class.members

-- what those of the classes before the one at a place take
abbrev pub statics_before : List KitUnits → ℕ → ℕ
statics_before units class = sum_by (statics_of units) (take class (all_classes units))

-- 65,535 of statics in a program
abbrev pub too_many_statics : List KitUnits → ℕ → Declaration → ℕ → Member → List Fault
too_many_statics units class d i m =
    broken_if
    (passes 65535
    (statics_before units class + sum_by (static_of units d.kit) (take i d.class.members))
    (static_of units d.kit m))
    22 m.at

-- ---- names

-- 31 characters in an identifier
abbrev pub too_long_name : Ident → List Fault
too_long_name id = broken_if (nat_lt 31 (length id.bytes)) 22 id.at

abbrev pub too_long_kit : Option Ident → List Fault
too_long_kit None = []
too_long_kit (Some id) = too_long_name id

abbrev pub too_long_in_name : TypeName → List Fault
too_long_in_name name = too_long_kit name.kit ++ too_long_name name.id

abbrev pub too_long_in_base : Option TypeName → List Fault
too_long_in_base None = []
too_long_in_base (Some name) = too_long_in_name name

abbrev pub too_long_in_base_type : Base → List Fault
too_long_in_base_type (base.Primitive p) = []
too_long_in_base_type base.Void = []
too_long_in_base_type (base.Named name) = too_long_in_name name

abbrev pub too_long_in_type : TypeRef → List Fault
too_long_in_type t = too_long_in_base_type t.base

abbrev pub too_long_in_facets : List Facet → List Fault
too_long_in_facets facets = flat_map (λ (f : Facet). too_long_name f.name) facets

abbrev pub too_long_in_value : InitValue → List Fault
too_long_in_value (init.Name id) = too_long_name id
too_long_in_value (init.Literal l) = []
too_long_in_value (init.Minus l) = []

abbrev pub too_long_in_init : Option Init → List Fault
too_long_in_init None = []
too_long_in_init (Some i) = too_long_in_value i.value

-- the identifiers of a class itself, without its members
abbrev pub too_long_in_class : Class → List Fault
too_long_in_class c = too_long_in_facets c.facets ++ too_long_name c.name ++ too_long_in_base c.base

-- those of a member, without its parameters and its body
abbrev pub too_long_in_member : Member → List Fault
too_long_in_member m =
    too_long_in_facets m.facets ++ too_long_in_type m.kind ++ too_long_name m.name
    ++ too_long_in_init (form_value m.form)

abbrev pub too_long_in_param : Param → List Fault
too_long_in_param p = too_long_in_type p.kind ++ too_long_name p.name
