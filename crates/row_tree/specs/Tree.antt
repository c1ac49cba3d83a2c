-- The tree in which rows stand.
use Rattle.std.specs.Prelude.{ℕ, ◌≡◌, false, List, [], map as map_list, slice_get}
use Rattle.std.specs.List.{All}
use Rattle.std.specs.Option.{option_map_or}
use Rattle.comp_tree.specs.Shape.{IsRooted}
use Rattle.app_file.specs.Rows.{sibling_behind}
use Rattle.row_tree.specs.TreeRows.{id_at, is_row, parent_in, place_of}
use Rattle.row_tree.specs.declared.tree_rows.TreeRow.{TreeRow}

-- these are the children of each id: the rows are a tree with the parents that they tell, the first child and the next
-- sibling of each are as it tells, and what is no row's id has no children
pub record IsTreeOf (rows : List TreeRow) (children : ℕ → List ℕ) : Type 0 where
  pub rooted : IsRooted (is_row rows) (parent_in rows) children
  pub first : All (λ (r : TreeRow). slice_get (children r.id) 0 ≡ r.first_child) rows
  pub next : All (λ (r : TreeRow). sibling_behind children r.id r.parent ≡ r.next_sibling) rows
  pub none : (id : ℕ) → is_row rows id ≡ false → children id ≡ []

-- what stands in a list of lists at a place
abbrev pub list_at : List (List ℕ) → ℕ → List ℕ
list_at lists place = option_map_or (λ list. list) (slice_get lists place) []

-- the children of an id, where each row has a list of the places of its children
abbrev pub children_in : List TreeRow → List (List ℕ) → ℕ → List ℕ
children_in rows lists id = map_list (id_at rows) (option_map_or (list_at lists) (place_of rows id) [])
