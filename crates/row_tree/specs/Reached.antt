-- What is reached from the first of several places, each of which has a list of places behind it.
use Rattle.std.specs.Prelude.{ℕ, ◌<◌, List, length}
use Rattle.std.specs.List.{Contains}
use Rattle.row_tree.specs.Tree.{list_at}

pub data Reached : List (List ℕ) → ℕ → Type 0 where
  root : (lists : List (List ℕ)) → 0 < length lists → Reached lists 0
  below : (lists : List (List ℕ)) (up place : ℕ) → Reached lists up
      → Contains (list_at lists up) place → Reached lists place

-- no list leads out of them
abbrev pub StayWithin : List (List ℕ) → Type 0
StayWithin lists = (up place : ℕ) → Contains (list_at lists up) place → place < length lists

abbrev pub AllReached : List (List ℕ) → Type 0
AllReached lists = (place : ℕ) → place < length lists → Reached lists place

pub record LacksOne (lists : List (List ℕ)) : Type 0 where
  pub place : ℕ
  pub within : place < length lists
  pub apart : Reached lists place → ⊥
