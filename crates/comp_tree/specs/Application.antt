-- An application: its components by their ids, the links between their slots, the statics and the data limit.
use Rattle.std.specs.Prelude.{ℕ, Bool, sum_by, List, [], Option}
use Rattle.std.specs.Option.{option_and_then, option_map_or}
use Rattle.std.specs.FinMap as map
use Rattle.std.specs.Ordering.{nat_cmp}
use Rattle.sed_value.specs.declared.slot_type.SlotType.{SlotType}
use Rattle.sed_value.specs.declared.value.Value.{Value}
use Rattle.sed_value.specs.declared.value.Value.TheVariants.{Nothing}
use Rattle.sed_typed.specs.declared.schema.SlotForm.{SlotForm}
use Rattle.sed_typed.specs.Contents.{Contents}
pub use Rattle.node_table.specs.Limits.{most_children, most_components}
use Rattle.sed_engine.specs.Code.{Meaning, Object, property_type, slot_form, slot_value}
pub use Rattle.sub_table.specs.Link.{Link, most_links}

-- a component: its class, its name, its parent, which the App alone has not, its children in their order, its values by
-- path, and its fault, 0 where it has none
pub record Component : Type 0 where
  pub class : ℕ
  pub name : List ℕ
  pub parent : Option ℕ
  pub children : List ℕ
  pub contents : Contents
  pub fault : ℕ

abbrev pub ById : Type 0
ById = map.FinMap nat_cmp Component

-- what a tree of components comes to: an application without its links
pub record Components : Type 0 where
  pub by_id : ById
  pub statics : Contents
  pub limit : ℕ

-- the links stand in ascending order of the target's id and then slot
pub record Application : Type 0 where
  pub components : Components
  pub links : List Link

-- ---- limits

-- the App stands at depth 0
abbrev pub greatest_depth : ℕ
greatest_depth = 16

abbrev pub most_links_at_component : ℕ
most_links_at_component = 60

-- ---- what is read off

abbrev pub is_live : ById → ℕ → Bool
is_live all id = map.contains_key all id

abbrev pub object_of : Component → Object
object_of c = record { class = c.class; contents = c.contents }

abbrev pub parent_of : ById → ℕ → Option ℕ
parent_of all id = option_and_then (λ (c : Component). c.parent) (map.get all id)

abbrev pub children_of : ById → ℕ → List ℕ
children_of all id = option_map_or (λ (c : Component). c.children) (map.get all id) []

abbrev pub name_of : ById → ℕ → List ℕ
name_of all id = option_map_or (λ (c : Component). c.name) (map.get all id) []

abbrev pub fault_of : ById → ℕ → ℕ
fault_of all id = option_map_or (λ (c : Component). c.fault) (map.get all id) 0

-- the form of a slot of a component, and its type where it is a property
abbrev pub form_at : Meaning → ById → ℕ → ℕ → Option SlotForm
form_at m all id slot = option_and_then (λ (c : Component). slot_form m c.class slot) (map.get all id)

abbrev pub type_at : Meaning → ById → ℕ → ℕ → Option SlotType
type_at m all id slot = property_type (form_at m all id slot)

-- the value in a slot
abbrev pub value_at : Meaning → ById → ℕ → ℕ → Value
value_at m all id slot = option_map_or (λ (c : Component). slot_value m (object_of c) slot) (map.get all id) Nothing

-- the data sizes of the components together
abbrev pub data_size_of : Meaning → ById → ℕ
data_size_of m all = sum_by (λ (c : Component). m.data_size c.class) (map.values all)

-- ---- what is changed

-- with another component in the place of one, or nothing where it is not live
abbrev pub change_at : ById → ℕ → (Component → Component) → ById
change_at all id change = option_map_or (λ (c : Component). map.insert all id (change c)) (map.get all id) all

abbrev pub with_components : Components → ById → Components
with_components a all = record { by_id = all; statics = a.statics; limit = a.limit }
