-- Rows by their ids.
use Rattle.std.specs.Prelude.{ℕ, suc, ◌<◌, ◌≡◌, ◌==◌, if◌then◌else◌, Bool, is_some, List, [], ◌∷◌, slice_get, Option}
use Rattle.std.specs.Prelude.{Some, None}
use Rattle.std.specs.Option.{option_and_then, option_map, option_map_or}
use Rattle.row_tree.specs.declared.tree_rows.TreeRow.{TreeRow}

-- of two rows the one behind has the greater id
abbrev pub Ascend : List TreeRow → Type 0
Ascend rows = (i j : ℕ) (r s : TreeRow) → i < j → slice_get rows i ≡ Some r → slice_get rows j ≡ Some s → r.id < s.id

-- the place of the first row with an id
abbrev pub place_of : List TreeRow → ℕ → Option ℕ
place_of [] id = None
place_of (r ∷ rows) id = if r.id == id then Some 0 else option_map suc (place_of rows id)

abbrev pub is_row : List TreeRow → ℕ → Bool
is_row rows id = is_some (place_of rows id)

abbrev pub row_with : List TreeRow → ℕ → Option TreeRow
row_with rows id = option_and_then (slice_get rows) (place_of rows id)

-- the parent that the row with an id tells
abbrev pub parent_in : List TreeRow → ℕ → Option ℕ
parent_in rows id = option_and_then (λ (r : TreeRow). r.parent) (row_with rows id)

-- the id of the row at a place
abbrev pub id_at : List TreeRow → ℕ → ℕ
id_at rows place = option_map_or (λ (r : TreeRow). r.id) (slice_get rows place) 0
