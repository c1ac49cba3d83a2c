-- What a file says of each component.
use Rattle.std.specs.Prelude.{ℕ, ◌==◌, if◌then◌else◌, List, [], ◌∷◌, map as map_list, slice_get, Option, None}
use Rattle.std.specs.Option.{option_and_then}
use Rattle.std.specs.FinMap as map
use Rattle.sed_value.specs.declared.value.Value.{Value}
use Rattle.sed_engine.specs.Code.{Meaning}
use Rattle.comp_tree.specs.Application.{ById, Component, children_of}
use Rattle.comp_tree.specs.Parts.{config_slots, values_in}

-- its id, class, name and parent; its first child and the sibling behind it, where there is one; and the values of
-- its config properties, in the order of the slots
pub record Row : Type 0 where
  pub id : ℕ
  pub class : ℕ
  pub name : List ℕ
  pub parent : Option ℕ
  pub first_child : Option ℕ
  pub next_sibling : Option ℕ
  pub config : List Value

-- what stands behind an id in a list
abbrev pub behind : ℕ → List ℕ → Option ℕ
behind id [] = None
behind id (k ∷ ks) = if k == id then slice_get ks 0 else behind id ks

-- of a component without a parent there is no sibling
abbrev pub sibling_behind : (ℕ → List ℕ) → ℕ → Option ℕ → Option ℕ
sibling_behind children id parent = option_and_then (λ up. behind id (children up)) parent

abbrev pub row_of : Meaning → (ℕ → List ℕ) → ℕ → Component → Row
row_of m children id c = record {
  id = id;
  class = c.class;
  name = c.name;
  parent = c.parent;
  first_child = slice_get c.children 0;
  next_sibling = sibling_behind children id c.parent;
  config = values_in m c (config_slots m c.class);
}

abbrev pub rows_by : Meaning → (ℕ → List ℕ) → List (ℕ × Component) → List Row
rows_by m children entries = map_list (λ (e : ℕ × Component). row_of m children e.0 e.1) entries

-- one row for each component, in ascending order of the ids
abbrev pub rows_of : Meaning → ById → List Row
rows_of m all = rows_by m (children_of all) (map.entries all)
