-- Components that are loaded, each as an entry tells of it, and no command makes them.
use Rattle.std.specs.Prelude.{ℕ, ◌<◌, ◌≤◌, IsTrue, nat_eq, List, length, map as map_list}
use Rattle.std.specs.List.{All, IsDistinct, zip}
use Rattle.std.specs.Option.{option_map}
use Rattle.std.specs.FinMap as map
use Rattle.sed_value.specs.declared.id.Id.{Id}
use Rattle.sed_typed.specs.Contents.{Contents}
use Rattle.sed_engine.specs.Code.{Meaning, is_creatable, new_object}
use Rattle.node_table.specs.Properties.{config_slots, config_types, with_slots}
use Rattle.node_table.specs.Values.{AreOfTypes}
use Rattle.comp_tree.specs.declared.loaded.Loaded.{Loaded}
use Rattle.comp_tree.specs.Application.{ById, Component, Components, children_of, is_live, most_children}
use Rattle.comp_tree.specs.Application.{most_components, parent_of}
use Rattle.comp_tree.specs.Shape.{IsTree}

-- the component of an entry: its config properties have the values that the entry gives, stored in the order of the
-- slots, and the rest is as it begins
abbrev pub loaded_component : Meaning → Loaded → Component
loaded_component m l = record {
  class = l.kind.0;
  name = l.name;
  parent = option_map (λ (id : Id). id.0) l.parent;
  children = map_list (λ (id : Id). id.0) l.children;
  contents = (with_slots m (zip (config_slots m l.kind.0) l.config) (new_object m l.kind.0)).contents;
  fault = 0;
}

-- the components of several entries, by their ids
abbrev pub loaded : Meaning → List Loaded → ById
loaded m entries = map.from_entries (map_list (λ (l : Loaded). (l.id.0, loaded_component m l)) entries)

abbrev pub loaded_components : Meaning → Contents → ℕ → List Loaded → Components
loaded_components m statics limit entries = record { by_id = loaded m entries; statics = statics; limit = limit }

-- an entry of a class of which components are made, with a value for each of its config properties
pub record IsToLoad (m : Meaning) (l : Loaded) : Type 0 where
  pub id : l.id.0 < most_components
  pub creatable : IsTrue (is_creatable m l.kind.0)
  pub children : length l.children ≤ most_children
  pub config : AreOfTypes (config_types m l.kind.0) l.config

-- entries with ids of their own, which are one tree
pub record AreToLoad (m : Meaning) (entries : List Loaded) : Type 0 where
  pub each : All (IsToLoad m) entries
  pub once : IsDistinct nat_eq (map_list (λ (l : Loaded). l.id.0) entries)
  pub tree : IsTree (is_live (loaded m entries)) (parent_of (loaded m entries)) (children_of (loaded m entries))
