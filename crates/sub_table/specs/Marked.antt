-- Components whose links are marked, for session places.
use Rattle.std.specs.Prelude.{ℕ, ◌≡◌, Bool, true, List, [], length, slice_index_or}
use Rattle.std.specs.List.{All}
use Rattle.sed_value.specs.declared.limits.TheConstants.{MOST_COMPONENTS, MOST_SESSIONS}

-- a row for each id, and in it a mark for each place
abbrev pub Marked : Type 0
Marked = List (List Bool)

-- whether the links at a component are marked for a place; of what is no id or no place, they are
abbrev pub has_mark : Marked → ℕ → ℕ → Bool
has_mark marked id place = slice_index_or (slice_index_or marked id []) place true

-- how many ids there are, and how many places
abbrev pub most_ids : ℕ
most_ids = MOST_COMPONENTS

abbrev pub places : ℕ
places = MOST_SESSIONS

-- each id has a mark for each place
pub record AreRows (marked : Marked) : Type 0 where
  pub ids : length marked ≡ most_ids
  pub at_each : All (λ row. length row ≡ places) marked
