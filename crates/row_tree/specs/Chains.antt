-- The children of one row, one behind the other.
use Rattle.std.specs.Prelude.{ℕ, ◌≡◌, List, [], ◌∷◌, length, slice_get, Option, Some, None}
use Rattle.std.specs.Option.{option_and_then}
use Rattle.row_tree.specs.Tree.{list_at}
use Rattle.row_tree.specs.declared.tree_rows.TreeRow.{TreeRow}

-- the row at a place has the id that stands there, and this parent
pub record IsChild (rows : List TreeRow) (up : ℕ) (at : Option ℕ) (place : ℕ) : Type 0 where
  pub row : TreeRow
  pub is : slice_get rows place ≡ Some row
  pub here : at ≡ Some row.id
  pub under : row.parent ≡ Some up

-- the sibling behind the row at a place
abbrev pub next_at : List TreeRow → ℕ → Option ℕ
next_at rows place = option_and_then (λ (r : TreeRow). r.next_sibling) (slice_get rows place)

-- from an id on, the places of siblings with this parent, to the last
abbrev pub IsChain : List TreeRow → ℕ → Option ℕ → List ℕ → Type 0
IsChain rows up at [] = at ≡ None
IsChain rows up at (place ∷ places) = IsChild rows up at place × IsChain rows up (next_at rows place) places

-- each row has a list, which is the chain of its children
pub record AreLists (rows : List TreeRow) (lists : List (List ℕ)) : Type 0 where
  pub size : length lists ≡ length rows
  pub each : (place : ℕ) (r : TreeRow) → slice_get rows place ≡ Some r
      → IsChain rows r.id r.first_child (list_at lists place)

-- one row has no such chain
pub record LacksChain (rows : List TreeRow) : Type 0 where
  pub place : ℕ
  pub row : TreeRow
  pub is : slice_get rows place ≡ Some row
  pub none : (places : List ℕ) → IsChain rows row.id row.first_child places → ⊥
