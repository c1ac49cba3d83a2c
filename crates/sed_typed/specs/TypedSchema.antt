-- What a typed program's schema, classes and members keep.
use Rattle.std.specs.Prelude.{ℕ, ◌≡◌, ◌≢◌, ◌==◌, ◌&&◌, ◌||◌, ◌+◌, ◌<◌, ◌≤◌, Bool, true, false, IsTrue, All, IfSome}
use Rattle.std.specs.Prelude.{IsSome, IsSomeAnd, List, [], ◌∷◌, ◌++◌, length, count_by, drop, filter, filter_map}
use Rattle.std.specs.Prelude.{slice_get, sum_by, Some, None, codes}
use Rattle.std.specs.List.{list_any}
use Rattle.std.specs.List.Sorted.{IsStrictlyIncreasing}
use Rattle.std.specs.Option.{option_map, option_map_or}
use Rattle.std.specs.Str.{bytes_eq}
use Rattle.sed_value.specs.Names.{is_kit_name}
use Rattle.sed_value.specs.Value.{is_of_type}
use Rattle.sed_value.specs.declared.value.Value.{Value}
use Rattle.sed_value.specs.declared.value.Value.TheVariants as kept
use Rattle.sed_value.specs.declared.slot_type.SlotType.{SlotType}
use Rattle.sed_value.specs.declared.slot_type.SlotType.TheVariants as slot
use Rattle.sed_typed.specs.declared.kind.Kind.{Kind}
use Rattle.sed_typed.specs.declared.kind.Kind.TheVariants as kind
use Rattle.sed_typed.specs.declared.program.Field.{Field}
use Rattle.sed_typed.specs.declared.program.FieldForm.{FieldForm}
use Rattle.sed_typed.specs.declared.program.FieldForm.TheVariants.{Prim, Str, Buf, Array, Object}
use Rattle.sed_typed.specs.declared.program.Method.{Method}
use Rattle.sed_typed.specs.declared.program.Program.{Program}
use Rattle.sed_typed.specs.declared.schema.ActionArg.{ActionArg}
use Rattle.sed_typed.specs.declared.schema.ActionArg.TheVariants as argument
use Rattle.sed_typed.specs.declared.schema.ClassInfo.{ClassInfo}
use Rattle.sed_typed.specs.declared.schema.Schema.{Schema}
use Rattle.sed_typed.specs.declared.schema.SlotForm.{SlotForm}
use Rattle.sed_typed.specs.declared.schema.SlotForm.TheVariants.{Prop, Action}
use Rattle.sed_typed.specs.declared.schema.SlotInfo.{SlotInfo}
use Rattle.sed_typed.specs.Classes.{base_of, declared_fields, declared_method, lineage, slots as slots_of}
use Rattle.sed_typed.specs.Classes.{fields as fields_of, find}
use Rattle.sed_typed.specs.Sizes.{data_size, config_size, runtime_size}
use Rattle.sed_typed.specs.Schemas.{type_at}
use Rattle.sed_typed.specs.SysTypes.{HasSysTypes, component_type, app_type}
use Rattle.sed_typed.specs.Virtual.{virtual_names}

-- ---- kits and types

-- so many classes are of this kit, with this number
abbrev pub types_at : List ClassInfo → ℕ → ℕ → ℕ
types_at classes kit number = count_by (λ c. (c.kit == kit) && (c.number == number)) classes

abbrev pub types_of : List ClassInfo → ℕ → ℕ
types_of classes kit = count_by (λ c. c.kit == kit) classes

-- at most 16 kits, `sys` first, with names that differ; the types of each are numbered from 0, each once
pub record HasKits (schema : Schema) : Type 0 where
  pub most : length schema.kits ≤ 16
  pub sys : IsSomeAnd (slice_get schema.kits 0) (λ kit. kit.name ≡ codes "sys")
  pub names : All (λ kit. IsTrue (is_kit_name kit.name)) schema.kits
  pub names_once : (name : List ℕ) → count_by (λ kit. bytes_eq kit.name name) schema.kits ≤ 1
  pub known : All (λ c. c.kit < length schema.kits) schema.classes
  pub numbered : (kit number : ℕ) → number < types_of schema.classes kit → types_at schema.classes kit number ≡ 1
  pub types : (kit : ℕ) → types_of schema.classes kit ≤ 64
  pub sys_types : HasSysTypes schema.classes

-- ---- classes

-- a class that is another or stands below it
abbrev pub is_below : List ClassInfo → ℕ → ℕ → Bool
is_below classes above class = list_any (λ c. c == above) (lineage classes class)

-- a class that is the type of kit `sys` with this number, or stands below it
abbrev pub is_below_sys : List ClassInfo → ℕ → ℕ → Bool
is_below_sys classes number class =
    option_map_or (λ above. is_below classes above class) (type_at classes 0 number) false

abbrev pub is_abstract : List ClassInfo → ℕ → Bool
is_abstract classes class = option_map_or (λ c. c.is_abstract) (slice_get classes class) false

-- names that no class has
abbrev pub is_reserved : List ℕ → Bool
is_reserved name = bytes_eq name (codes "Str") || bytes_eq name (codes "Buf") || bytes_eq name (codes "Sys")

-- how many classes of a kit have a name
abbrev pub classes_named : List ClassInfo → ℕ → List ℕ → ℕ
classes_named classes kit name = count_by (λ c. (c.kit == kit) && bytes_eq c.name name) classes

-- one list begins with another
abbrev pub Begins : {X : Type 0} → List X → List X → Type 0
Begins {X} front whole = (rest : List X) × (whole ≡ front ++ rest)

-- a class against its base
pub record HasBase (program : Program) (class base : ℕ) : Type 0 where
  pub before : base < class
  pub no_app : type_at program.schema.classes 0 app_type ≢ Some base
  pub slots : Begins (slots_of program.schema.classes base) (slots_of program.schema.classes class)
  pub size : data_size program base ≤ data_size program class

-- a class as its bases, fields and methods give it; `Obj` alone has no base
pub record IsClass (program : Program) (class : ℕ) (info : ClassInfo) : Type 0 where
  pub name_free : is_reserved info.name ≡ false
  pub name_once : classes_named program.schema.classes info.kit info.name ≡ 1
  pub based : info.base ≡ None → (info.kit ≡ 0) × (info.number ≡ 0)
  pub base : IfSome (base_of program.schema.classes class) (HasBase program class)
  pub component : info.is_component ≡ is_below_sys program.schema.classes component_type class
  pub size : info.size ≡ data_size program class
  pub size_most : info.size < 65536
  pub slots_most : length info.slots ≤ 64
  pub config_most : config_size info.slots ≤ 400
  pub runtime_most : runtime_size info.slots ≤ 400

-- ---- slots

-- a field that is the property in this slot
abbrev pub IsProperty : SlotInfo → SlotType → Field → Type 0
IsProperty s (slot.Prim p) f = (f.form ≡ Prim p) × (f.name ≡ s.name)
IsProperty s (slot.Buf n) f = (f.form ≡ Buf n) × (1 ≤ n) × (n ≤ 128) × (f.name ≡ s.name)

abbrev pub in_slot : ℕ → Field → Bool
in_slot n f = option_map_or (λ s. s.0 == n) f.slot false

-- the parameters of an action's method
abbrev pub argument_kinds : ActionArg → List Kind
argument_kinds argument.Void = []
argument_kinds argument.Bool = kind.Bool ∷ []
argument_kinds argument.Int = kind.Int ∷ []
argument_kinds argument.Long = kind.Long ∷ []

-- the method of an action: virtual, void, with its argument
abbrev pub IsAction : ActionArg → Method → Type 0
IsAction a m = (m.is_static ≡ false) × (m.is_virtual ≡ true) × (m.result ≡ kind.Void) × (m.params ≡ argument_kinds a)

-- a slot has one field, or a method; the application file keeps no action
abbrev pub HasSlot : Program → ℕ → ℕ → SlotInfo → SlotForm → Type 0
HasSlot program class n s (Prop t) = (f : Field) × (filter (in_slot n) (fields_of program class) ≡ f ∷ [])
    × IsProperty s t f
HasSlot program class n s (Action a) =
    (filter (in_slot n) (fields_of program class) ≡ [])
    × IsSomeAnd (find program class s.name) (λ m. IsSomeAnd (slice_get program.methods m) (IsAction a))
    × (s.config ≡ false)

-- the slots that a class adds to those of its base
abbrev pub added_slots : List ClassInfo → ℕ → List SlotInfo
added_slots classes class =
    drop (option_map_or (λ base. length (slots_of classes base)) (base_of classes class) 0) (slots_of classes class)

-- A method that a class itself declares, and its base has none of that name.
abbrev pub IsNewMethod : Program → ℕ → List ℕ → Type 0
IsNewMethod program class name =
    IsSome (declared_method program.methods name class)
    × IfSome (base_of program.schema.classes class) (λ base. find program base name ≡ None)

-- A slot that a class adds. A property has a field that the class itself declares, since those of the base have slots
-- of the base (`within`).
abbrev pub IsAdded : Program → ℕ → SlotInfo → SlotForm → Type 0
IsAdded program class s (Prop t) = Unit {0}
IsAdded program class s (Action a) = IsNewMethod program class s.name

-- the slots of those fields that are properties
abbrev pub property_slots : List Field → List ℕ
property_slots fields = filter_map (λ f. option_map (λ s. s.0) f.slot) fields

pub record HasSlots (program : Program) (class : ℕ) (info : ClassInfo) : Type 0 where
  pub each : (n : ℕ) → IfSome (slice_get info.slots n) (λ s. HasSlot program class n s s.form)
  pub names : (name : List ℕ) → count_by (λ s. bytes_eq s.name name) info.slots ≤ 1
  pub added : All (λ s. IsAdded program class s s.form) (added_slots program.schema.classes class)
  -- the properties that a class declares have their numbers in the order of its fields
  pub in_order : IsStrictlyIncreasing (property_slots (declared_fields program.fields class))
  pub components : 0 < length info.slots → info.is_component ≡ true
  pub within : All (λ f. IfSome f.slot (λ s. s.0 < length info.slots)) (fields_of program class)

-- ---- fields

-- an initial value that a field of this form has
abbrev pub is_initial : FieldForm → Value → Bool
is_initial (Prim p) v = is_of_type (slot.Prim p) v
is_initial (Buf n) v = is_of_type (slot.Buf n) v
is_initial (Str n) kept.Nothing = true
is_initial (Str n) v = false
is_initial (Array p n) kept.Nothing = true
is_initial (Array p n) v = false
is_initial (Object t) kept.Nothing = true
is_initial (Object t) v = false

-- what a field may be: a Buf is a property, and an inline object is of a class with fields, neither abstract nor a
-- component
abbrev pub IsForm : Program → Field → FieldForm → Type 0
IsForm program f (Prim p) = Unit {0}
IsForm program f (Str n) = (1 ≤ n) × (n ≤ 255) × (f.slot ≡ None)
IsForm program f (Buf n) = (1 ≤ n) × (n ≤ 128) × (f.slot ≢ None)
IsForm program f (Array p n) = (1 ≤ n) × (f.slot ≡ None)
IsForm program f (Object t) =
    (t.0 < length program.schema.classes)
    × (is_abstract program.schema.classes t.0 ≡ false)
    × (is_below_sys program.schema.classes component_type t.0 ≡ false)
    × (0 < length (fields_of program t.0))
    × (f.slot ≡ None)

-- the class of a field that is an object lies deeper than that which has it, so no object holds itself
abbrev pub LiesDeeper : (ℕ → ℕ) → ℕ → FieldForm → Type 0
LiesDeeper depth class (Prim p) = Unit {0}
LiesDeeper depth class (Str n) = Unit {0}
LiesDeeper depth class (Buf n) = Unit {0}
LiesDeeper depth class (Array p n) = Unit {0}
LiesDeeper depth class (Object t) = depth t.0 < depth class

pub record IsField (program : Program) (f : Field) : Type 0 where
  pub class : f.class.0 < length program.schema.classes
  pub form : IsForm program f f.form
  pub initial : IsTrue (is_initial f.form f.initial)

-- ---- members

-- how many fields and statics of a class have a name
abbrev pub fields_named : Program → ℕ → List ℕ → ℕ
fields_named program class name =
    count_by (λ f. (f.class.0 == class) && bytes_eq f.name name) program.fields
    + count_by (λ f. (f.class.0 == class) && bytes_eq f.name name) program.statics

-- how many members of a class have a name
abbrev pub members_named : Program → ℕ → List ℕ → ℕ
members_named program class name =
    fields_named program class name + count_by (λ m. (m.class.0 == class) && bytes_eq m.name name) program.methods

-- at and above a class
abbrev pub members_above : Program → ℕ → List ℕ → ℕ
members_above program class name = sum_by (λ c. members_named program c name) (lineage program.schema.classes class)

abbrev pub fields_above : Program → ℕ → List ℕ → ℕ
fields_above program class name = sum_by (λ c. fields_named program c name) (lineage program.schema.classes class)

-- a method overrides one above that is virtual and has its signature
pub record Overrides (m above : Method) : Type 0 where
  pub instance : m.is_static ≡ false
  pub instance_above : above.is_static ≡ false
  pub virtual : m.is_virtual ≡ true
  pub virtual_above : above.is_virtual ≡ true
  pub params : m.params ≡ above.params
  pub result : m.result ≡ above.result

-- no member has the name of another of its class, and only a method that overrides has that of an inherited one
pub record HasMembers (program : Program) (class : ℕ) : Type 0 where
  pub once : (name : List ℕ) → members_named program class name ≤ 1
  pub fields : All (λ f. f.class.0 ≡ class → members_above program class f.name ≡ 1) program.fields
  pub statics : All (λ f. f.class.0 ≡ class → members_above program class f.name ≡ 1) program.statics
  pub methods : All (λ m. m.class.0 ≡ class → IfSome (base_of program.schema.classes class) (λ base.
      IfSome (find program base m.name) (λ n. IfSome (slice_get program.methods n) (Overrides m)))) program.methods
  pub methods_apart : All (λ m. m.class.0 ≡ class → fields_above program class m.name ≡ 0) program.methods
  pub methods_most : count_by (λ m. m.class.0 == class) program.methods ≤ 60
  pub virtual_most : length (virtual_names program class) ≤ 255
