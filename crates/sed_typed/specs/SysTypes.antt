-- The types of kit `sys`, which is kit 0.
use Rattle.std.specs.Prelude.{ℕ, ◌≡◌, ◌==◌, ◌&&◌, not, Bool, true, false, IsSomeAnd, List, [], ◌∷◌, count_by, slice_get}
use Rattle.std.specs.Prelude.{Option, Some, None, codes}
use Rattle.std.specs.Option.{option_and_then, option_map, option_map_or}
use Rattle.sed_value.specs.declared.slot_type.Primitive.TheVariants as prim
use Rattle.sed_value.specs.declared.slot_type.SlotType.TheVariants as slot
use Rattle.sed_typed.specs.declared.schema.ActionArg.TheVariants.{Void}
use Rattle.sed_typed.specs.declared.schema.ClassInfo.{ClassInfo}
use Rattle.sed_typed.specs.declared.schema.SlotForm.TheVariants.{Prop, Action}
use Rattle.sed_typed.specs.declared.schema.SlotInfo.{SlotInfo}
use Rattle.sed_typed.specs.Schemas.{type_at}

-- the type from which virtual methods are had, that of components, and the App, by their numbers in the kit; classes of
-- other kits may stand between them
abbrev pub virtual_type : ℕ
virtual_type = 1

abbrev pub component_type : ℕ
component_type = 2

abbrev pub app_type : ℕ
app_type = 3

-- a class is the type of the kit with this number
abbrev pub is_sys_type : List ClassInfo → ℕ → ℕ → Bool
is_sys_type classes number class = option_map_or (λ sys. sys == class) (type_at classes 0 number) false

-- a class stands below that of components, and is not the App's
abbrev pub is_for_components : List ClassInfo → ℕ → Bool
is_for_components classes class =
    option_map_or (λ c. c.is_component) (slice_get classes class) false
    && not (is_sys_type classes component_type class) && not (is_sys_type classes app_type class)

-- a class as `sys` has it; its base is a type of the kit too
pub record IsSysType (classes : List ClassInfo) (name : List ℕ) (base : Option ℕ)
    (abstract component : Bool) (size : ℕ) (all : List SlotInfo) (c : ClassInfo) : Type 0 where
  pub name_is : c.name ≡ name
  pub base_is : option_map (λ t. t.0) c.base ≡ option_and_then (λ number. type_at classes 0 number) base
  pub is_abstract : c.is_abstract ≡ abstract
  pub is_component : c.is_component ≡ component
  pub size_is : c.size ≡ size
  pub slots : c.slots ≡ all

-- the slot of every component, and the one that the App has besides
abbrev pub meta_slot : SlotInfo
meta_slot = record { name = codes "meta"; config = true; form = Prop (slot.Prim prim.Int) }

abbrev pub save_slot : SlotInfo
save_slot = record { name = codes "save"; config = false; form = Action Void }

-- the type of this number is there, and is such a class
abbrev pub HasSysType : List ClassInfo → ℕ → (ClassInfo → Type 0) → Type 0
HasSysType classes number P = IsSomeAnd (type_at classes 0 number) (λ class. IsSomeAnd (slice_get classes class) P)

-- kit 0 has these five types and no other
pub record HasSysTypes (classes : List ClassInfo) : Type 0 where
  pub five : count_by (λ c. c.kit == 0) classes ≡ 5
  pub object : HasSysType classes 0 (IsSysType classes (codes "Obj") None true false 0 [])
  pub virtual : HasSysType classes 1 (IsSysType classes (codes "Virtual") (Some 0) true false 0 [])
  pub component : HasSysType classes 2 (IsSysType classes (codes "Component") (Some 1) true true 4 (meta_slot ∷ []))
  pub app : HasSysType classes 3 (IsSysType classes (codes "App") (Some 2) false true 4 (meta_slot ∷ save_slot ∷ []))
  pub folder : HasSysType classes 4 (IsSysType classes (codes "Folder") (Some 2) false true 4 (meta_slot ∷ []))
