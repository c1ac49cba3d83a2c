-- Rows, and the components that they tell of.
use Rattle.std.specs.Prelude.{ℕ, ◌≡◌, IsTrue, List, [], ◌++◌, map as map_list, slice_get, None}
use Rattle.std.specs.List.{All, zip}
use Rattle.std.specs.FinMap as map
use Rattle.std.specs.Ordering.{nat_cmp}
use Rattle.sed_engine.specs.Code.{Meaning, new_object}
use Rattle.comp_tree.specs.Application.{Application, ById, Component, Link}
use Rattle.comp_tree.specs.Parts.{config_slots, values_in, with_slots}
use Rattle.app_file.specs.Rows.{Row, sibling_behind}
use Rattle.app_file.specs.Text.{body_text, front_text, greatest_of}

-- a component as its row tells of it, with these children: its config values are stored in a new object, in the order
-- of the slots
abbrev pub told_component : Meaning → Row → List ℕ → Component
told_component m r children = record {
  class = r.class;
  name = r.name;
  parent = r.parent;
  children = children;
  contents = (with_slots m (zip (config_slots m r.class) r.config) (new_object m r.class)).contents;
  fault = 0;
}

abbrev pub told_entries : Meaning → (ℕ → List ℕ) → List Row → List (ℕ × Component)
told_entries m children rows = map_list (λ (r : Row). (r.id, told_component m r (children r.id))) rows

-- the components that rows tell of, with these children of each id
abbrev pub told_by : Meaning → (ℕ → List ℕ) → List Row → ById
told_by m children rows = map.from_sorted (told_entries m children rows)

-- a row agrees with the children: the first child and the next sibling are as it says, and each slot gives the value
-- that it gives
pub record RowAgrees (m : Meaning) (children : ℕ → List ℕ) (r : Row) : Type 0 where
  pub first : slice_get (children r.id) 0 ≡ r.first_child
  pub next : sibling_behind children r.id r.parent ≡ r.next_sibling
  pub gives : values_in m (told_component m r (children r.id)) (config_slots m r.class) ≡ r.config

-- the ids of rows ascend, each row agrees with the children, and what is no row's id has none
pub record RowsAgree (m : Meaning) (children : ℕ → List ℕ) (rows : List Row) : Type 0 where
  pub ascend : IsTrue (map.is_sorted nat_cmp (told_entries m children rows))
  pub each : All (RowAgrees m children) rows
  pub none : (id : ℕ) → map.get (told_by m children rows) id ≡ None → children id ≡ []

-- ---- with links, under a data limit

abbrev pub told_application : Meaning → (ℕ → List ℕ) → List Row → List Link → ℕ → Application
told_application m children rows links limit = record {
  components = record { by_id = told_by m children rows; statics = m.initial_statics; limit = limit };
  links = links;
}

abbrev pub ids_of_rows : List Row → List ℕ
ids_of_rows rows = map_list (λ (r : Row). r.id) rows

-- the text in which rows and links stand
abbrev pub told_text : ℕ → Meaning → List Row → List Link → List ℕ
told_text version m rows links = front_text version m.schema.kits
    ++ body_text m (greatest_of (ids_of_rows rows)) rows links
