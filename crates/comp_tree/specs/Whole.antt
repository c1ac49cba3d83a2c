-- What holds of every application.
use Rattle.std.specs.Prelude.{ℕ, ◌≡◌, ◌<◌, ◌≤◌, not, IsTrue, IfSome, IsSomeAnd, length, codes, map as map_list}
use Rattle.std.specs.Prelude.{Some, None}
use Rattle.std.specs.List.{All, AllPairs, IsDistinct}
use Rattle.std.specs.Str.{bytes_eq}
use Rattle.std.specs.FinMap as map
use Rattle.sed_value.specs.Names.{is_name}
use Rattle.sed_typed.specs.Schemas.{type_at as class_numbered}
use Rattle.sed_typed.specs.SysTypes.{app_type}
use Rattle.sed_engine.specs.Code.{Meaning}
use Rattle.sed_engine.specs.Fits.{Fits}
use Rattle.comp_tree.specs.Application.{Application, ById, Component, Link, children_of, data_size_of, greatest_depth}
use Rattle.comp_tree.specs.Application.{is_live, most_children, most_components, most_links, most_links_at_component}
use Rattle.comp_tree.specs.Application.{name_of, parent_of, type_at}
use Rattle.comp_tree.specs.Links.{go_together_if_there, is_before}
use Rattle.comp_tree.specs.Order.{depth}
use Rattle.comp_tree.specs.Parts.{links_at, no_id}
use Rattle.comp_tree.specs.Refusals.{is_abstract_class, is_for_components}
use Rattle.comp_tree.specs.Shape.{IsRooted}

-- of the component with each id
abbrev pub Each : ById → (ℕ → Component → Type 0) → Type 0
Each all P = (id : ℕ) → IfSome (map.get all id) (P id)

-- the App, which alone has its type
pub record IsApp (m : Meaning) (c : Component) : Type 0 where
  pub class : class_numbered m.schema.classes 0 app_type ≡ Some c.class
  pub name : c.name ≡ codes "app"
  pub parent : c.parent ≡ None

-- any other component
pub record IsOther (m : Meaning) (c : Component) : Type 0 where
  pub component : IsTrue (is_for_components m c.class)
  pub concrete : IsTrue (not (is_abstract_class m c.class))

-- a link between properties of live components, whose types go together
pub record IsLink (m : Meaning) (all : ById) (l : Link) : Type 0 where
  pub from : IsTrue (is_live all l.from)
  pub to : IsTrue (is_live all l.to)
  pub typed : IsTrue (go_together_if_there (type_at m all l.from l.from_slot) (type_at m all l.to l.to_slot))

-- all that holds of an application but the limits
pub record IsFormed (m : Meaning) (a : Application) : Type 0 where
  -- a component is among the children of its parent, and of no other; nothing else is among anybody's children
  pub tree : IsRooted (is_live a.components.by_id) (parent_of a.components.by_id) (children_of a.components.by_id)
  pub app : IsSomeAnd (map.get a.components.by_id 0) (IsApp m)
  pub others : Each a.components.by_id (λ id c. 0 < id → IsOther m c)
  pub names : Each a.components.by_id (λ id c. IsTrue (is_name c.name))
  pub siblings : Each a.components.by_id (λ id c.
      IsDistinct bytes_eq (map_list (name_of a.components.by_id) c.children))
  pub links : All (IsLink m a.components.by_id) a.links
  -- so no two have one target
  pub order : AllPairs (λ k l. IsTrue (is_before k l)) a.links
  pub values : Each a.components.by_id (λ id c. Fits m.fields (m.fields c.class) (m.initial c.class) c.contents)
  -- 0, or the number of a trap
  pub faults : Each a.components.by_id (λ id c. c.fault ≤ 5)
  pub statics : Fits m.fields m.static_fields m.initial_statics a.components.statics
  -- one number is no component's, so that a list of components has an end
  pub ids : Each a.components.by_id (λ id c. id < no_id)

-- what is formed and passes no limit
pub record Whole (m : Meaning) (a : Application) : Type 0 where
  pub formed : IsFormed m a
  -- as ids are below 4,096, no more components than that are live, and where fewer are there is a least free id
  pub ids : Each a.components.by_id (λ id c. id < most_components)
  pub link_count : length a.links ≤ most_links
  -- so from the App down each component is reached, once, within the levels that a tree may have
  pub depths : (id : ℕ) → IsTrue (is_live a.components.by_id id) → depth a.components.by_id id ≤ greatest_depth
  pub children : Each a.components.by_id (λ id c. length c.children ≤ most_children)
  pub links_at_each : (id : ℕ) → length (links_at id a.links) ≤ most_links_at_component
  pub data_sizes : data_size_of m a.components.by_id ≤ a.components.limit
  pub least_limit : 1 ≤ a.components.limit
  pub most_limit : a.components.limit ≤ 4194304
