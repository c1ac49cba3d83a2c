-- Components that are marked: the place of a mark is the id.
use Rattle.std.specs.Prelude.{ℕ, ◌≡◌, ◌==◌, ◌||◌, Bool, false, List, slice_index_or}
use Rattle.std.specs.List.{list_any}
use Rattle.sub_table.specs.Link.{Link}

-- nothing is marked past the last mark
abbrev pub is_marked : List Bool → ℕ → Bool
is_marked marks id = slice_index_or marks id false

-- these are the ids that are marked
abbrev pub AreMarked : List Bool → List ℕ → Type 0
AreMarked marks ids = (id : ℕ) → list_any (λ other. id == other) ids ≡ is_marked marks id

abbrev pub is_at_mark : List Bool → Link → Bool
is_at_mark marks l = is_marked marks l.from || is_marked marks l.to
