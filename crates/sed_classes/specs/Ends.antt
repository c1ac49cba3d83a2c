-- How far it is from a class to where its bases end.
use Rattle.std.specs.Prelude.{◌≡◌, ◌<◌, ℕ, zero, suc, Bool, true, false, List, [], ◌∷◌, slice_get, unwrap_or}
use Rattle.std.specs.Prelude.{Option, Some, None}

-- so many steps lead from here to where nothing comes, and no fewer
abbrev pub ends_after : (ℕ → Option ℕ) → ℕ → Option ℕ → Bool
ends_after next zero None = true
ends_after next zero (Some at) = false
ends_after next (suc steps) None = false
ends_after next (suc steps) (Some at) = ends_after next steps (next at)

-- what so many steps go through, whether it came before or not
abbrev pub gone_through : (ℕ → Option ℕ) → ℕ → Option ℕ → List ℕ
gone_through next zero at = []
gone_through next (suc steps) None = []
gone_through next (suc steps) (Some at) = at ∷ gone_through next steps (next at)

-- what a row has at a place; none behind its end
abbrev pub item_at : List (Option ℕ) → ℕ → Option ℕ
item_at row place = unwrap_or (slice_get row place) None

-- a row that has for some classes, each at its place, after how many steps from base to base nothing comes: fewer than
-- this number
pub record AreCounts (next : ℕ → Option ℕ) (most : ℕ) (counts : List (Option ℕ)) : Type 0 where
  pub within : (class count : ℕ) → item_at counts class ≡ Some count → count < most
  pub ends : (class count : ℕ) → item_at counts class ≡ Some count → ends_after next count (next class) ≡ true
