-- What is told of a component.
use Rattle.std.specs.Prelude.{ℕ, ◌≡◌, ◌≤◌, IsTrue, length, Option, Some}
use Rattle.std.specs.Option.{option_map}
use Rattle.std.specs.FinMap as map
use Rattle.sed_value.specs.declared.id.Id.{Id}
use Rattle.sed_engine.specs.Code.{Places}
use Rattle.node_table.specs.declared.node.Node.{Node}
use Rattle.comp_tree.specs.declared.entry.Entry.{Entry}
use Rattle.comp_tree.specs.Application.{ById, Component, is_live, object_of}
use Rattle.comp_tree.specs.Held.{Nodes}

-- an entry of a component, whose values are kept at its place
pub record IsEntry (live : Places) (e : Entry) (c : Component) : Type 0 where
  pub kind : e.kind.0 ≡ c.class
  pub name : e.name ≡ c.name
  pub parent : option_map (λ (id : Id). id.0) e.parent ≡ c.parent
  pub children : e.children ≡ length c.children
  pub fault : e.fault ≡ c.fault
  pub place : map.get live e.place.0 ≡ Some (object_of c)

-- where the values of a node are kept, by its id: no other node's are kept there
abbrev pub place_in : Nodes → ℕ → Option ℕ
place_in nodes id = option_map (λ (n : Node). n.place.0) (map.get nodes id)

-- the greatest id that is live
pub record IsGreatest (all : ById) (id : ℕ) : Type 0 where
  pub live : IsTrue (is_live all id)
  pub greatest : (other : ℕ) → IsTrue (is_live all other) → other ≤ id
