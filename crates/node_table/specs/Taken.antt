-- Which ids are taken, a bit for each in words of 64.
use Rattle.std.specs.Prelude.{ℕ, ◌≡◌, ◌==◌, ◌/◌, ◌%◌, Bool, is_some, None, List, Option, slice_index, slice_index_or}
use Rattle.std.specs.Int.{bit_at}
use Rattle.slab.specs.Slab.{Slab}
use Rattle.node_table.specs.Indexed.{IsIndexed}

abbrev pub is_taken : List ℕ → ℕ → Bool
is_taken words id = bit_at (slice_index words (id / 64)) (id % 64) == 1

-- the ids that are taken are those that have a key in the index
pub record IsMarked {T : Type 0} (most : ℕ) (index : List (Option ℕ)) (slab : Slab T) (words : List ℕ) : Type 0 where
  pub indexed : IsIndexed most index slab
  pub marked : (id : ℕ) → is_taken words id ≡ is_some (slice_index_or index id None)
