-- What contracts see of a tree, and the components that it stands for.
use Rattle.std.specs.Prelude.{ℕ, ◌≡◌, refl, List, [], Option, Some, None, IsSomeAnd, IsTrue}
use Rattle.std.specs.Option.{option_and_then, option_map, option_map_or}
use Rattle.std.specs.Coded.{Coded, code_by, coded×, coded_ℕ}
use Rattle.std.specs.FinMap as map
use Rattle.std.specs.Ordering.{nat_cmp}
use Rattle.sed_value.specs.declared.id.Id.{Id}
use Rattle.sed_typed.specs.Contents.{Contents}
use Rattle.sed_engine.specs.declared.engine.Engine.{Ghosts}
use Rattle.sed_engine.specs.Code.{Meaning, Object, Places, data_of, is_property}
use Rattle.node_table.specs.declared.node.Node.{Node}
use Rattle.sed_value.specs.Mapped.{map_values}
use Rattle.comp_tree.specs.Application.{ById, Component, Components, data_size_of, object_of}
use Rattle.comp_tree.specs.Refusals.{first_refusal, refusals_of_read}
use Rattle.comp_tree.specs.Shape.{IsTree}

abbrev pub Nodes : Type 0
Nodes = map.FinMap nat_cmp Node

-- an engine, and the nodes by their ids
pub record Held (E : Type 0) : Type 0 where
  pub engine : E
  pub nodes : Nodes

abbrev pub held_code : {E : Type 0} → Coded E → Coded Node → Coded (Held E)
held_code {E} code node =
    code_by (E × Nodes) (coded× code (map.code coded_ℕ node)) (λ h. (h.engine, h.nodes))
    (λ p. record { engine = p.0; nodes = p.1 }) (λ _. refl)

-- a node's name, parent and children, by its id
abbrev pub name_in : Nodes → ℕ → List ℕ
name_in nodes id = option_map_or (λ (n : Node). n.name) (map.get nodes id) []

abbrev pub parent_in : Nodes → ℕ → Option ℕ
parent_in nodes id = option_and_then (λ (n : Node). option_map (λ (i : Id). i.0) n.parent) (map.get nodes id)

abbrev pub children_in : Nodes → ℕ → List ℕ
children_in nodes id = option_map_or (λ (n : Node). n.children) (map.get nodes id) []

-- the contents of the object at a place
abbrev pub contents_at : Places → ℕ → Contents
contents_at live place = option_map_or (λ (o : Object). o.contents) (map.get live place) []

-- the component that a node stands for: its values are kept by the engine
abbrev pub component_of : Places → Node → Component
component_of live n = record {
  class = n.kind.0;
  name = n.name;
  parent = option_map (λ (id : Id). id.0) n.parent;
  children = n.children;
  contents = contents_at live n.place.0;
  fault = n.fault;
}

abbrev pub by_id_of : Places → Nodes → ById
by_id_of live nodes = map_values (component_of live) nodes

-- the components that a tree stands for
abbrev pub components_of : {E : Type 0} → Ghosts E → Held E → Components
components_of g h = record {
  by_id = by_id_of (g.live h.engine) h.nodes;
  statics = g.statics h.engine;
  limit = g.limit h.engine;
}

-- each node's place is live and holds an object of its class; no two nodes have one place, and no other place is live;
-- so the objects have as much data together as the components
pub record IsPlaced (m : Meaning) (live : Places) (nodes : Nodes) : Type 0 where
  pub placed : (id : ℕ) (n : Node) → map.get nodes id ≡ Some n
      → (o : Object) × (map.get live n.place.0 ≡ Some o) × (o.class ≡ n.kind.0)
  pub apart : (id other : ℕ) (n k : Node) → map.get nodes id ≡ Some n
      → map.get nodes other ≡ Some k → n.place.0 ≡ k.place.0 → id ≡ other
  pub count : map.len live ≡ map.len nodes
  pub sizes : data_of m live ≡ data_size_of m (by_id_of live nodes)

-- the nodes are in one tree
abbrev pub IsTreeOf : Nodes → Type 0
IsTreeOf nodes = IsTree (map.contains_key nodes) (parent_in nodes) (children_in nodes)

-- what a tree keeps
pub record IsHeld (m : Meaning) (live : Places) (nodes : Nodes) : Type 0 where
  pub placed : IsPlaced m live nodes
  pub tree : IsTreeOf nodes

-- the place keeps the values of the component with this id, which has this property
pub record IsPropertyOf {E : Type 0} (g : Ghosts E) (h : Held E) (id slot place : ℕ) : Type 0 where
  pub allowed : first_refusal (refusals_of_read (g.meaning h.engine) (components_of g h).by_id id slot) ≡ None
  pub property : IsSomeAnd (map.get (g.live h.engine) place) (λ o.
      IsTrue (is_property (g.meaning h.engine) o.class slot))
  pub component : IsSomeAnd (map.get (g.live h.engine) place) (λ o.
      option_map object_of (map.get (components_of g h).by_id id) ≡ Some o)
