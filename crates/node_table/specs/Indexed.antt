-- Nodes that a slab keeps, found by their ids.
use Rattle.std.specs.Prelude.{ℕ, ◌≡◌, ◌≤◌, ◌+◌, is_some, IsSome, List, [], ◌∷◌, length, map, count_by, slice_index_or}
use Rattle.std.specs.Prelude.{Option, Some, None}
use Rattle.std.specs.FinMap.{FinMap, from_entries}
use Rattle.std.specs.Ordering.{nat_cmp}
use Rattle.slab.specs.Slab.{Slab, get, slab_len}

module _ {T : Type 0} where
  -- what a slab keeps under a key, if there is one
  abbrev pub kept_at : Slab T → Option ℕ → Option T
  kept_at slab None = None
  kept_at slab (Some key) = get slab key

  -- what is kept for each id, from 0 on
  abbrev pub kept : List (Option ℕ) → Slab T → List (Option T)
  kept index slab = map (kept_at slab) index

  -- each value with its number, the first place having this one
  abbrev pub numbered : ℕ → List (Option T) → List (ℕ × T)
  numbered n [] = []
  numbered n (None ∷ slots) = numbered (n + 1) slots
  numbered n (Some value ∷ slots) = (n, value) ∷ numbered (n + 1) slots

  -- the values by their places
  abbrev pub by_number : List (Option T) → FinMap nat_cmp T
  by_number slots = from_entries (numbered 0 slots)

  -- each key of the index is that of a value, no two ids have one key, and the slab has a value for no other key
  pub record IsIndexed (most : ℕ) (index : List (Option ℕ)) (slab : Slab T) : Type 0 where
    pub size : length index ≡ most
    pub there : (id key : ℕ) → slice_index_or index id None ≡ Some key → IsSome (get slab key)
    pub apart : (id other key : ℕ) → slice_index_or index id None ≡ Some key
        → slice_index_or index other None ≡ Some key → id ≡ other
    pub count : slab_len slab ≡ count_by is_some index
    pub room : most ≤ slab.capacity
