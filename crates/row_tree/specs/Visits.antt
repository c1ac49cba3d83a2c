-- The places that were met on the way, in their order.
use Rattle.std.specs.Prelude.{ℕ, ◌≡◌, ◌≢◌, ◌<◌, ◌≤◌, Bool, true, if◌then◌else◌, List, [], ◌∷◌, ◌++◌, length, slice_get}
use Rattle.std.specs.Prelude.{slice_index_or, slice_set, Some}
use Rattle.std.specs.List.{AllPairs, Contains, fold}
use Rattle.row_tree.specs.Reached.{Reached}
use Rattle.row_tree.specs.Tree.{list_at}

-- a mark for each place that was met, and these places
abbrev pub Visit : Type 0
Visit = List Bool × List ℕ

-- another place is met; one that was met before, or is none, changes nothing
abbrev pub meet : Visit → ℕ → Visit
meet v place = if slice_index_or v.0 place true then v else (slice_set v.0 place true, v.1 ++ place ∷ [])

abbrev pub meet_each : Visit → List ℕ → Visit
meet_each v places = fold meet v places

-- what was met is marked and reached, once each, and of so many of the first all behind them was met
pub record IsMet (lists : List (List ℕ)) (done : ℕ) (v : Visit) : Type 0 where
  pub size : length v.0 ≡ length lists
  pub few : done ≤ length v.1
  pub in_order : (place : ℕ) → slice_get v.0 place ≡ Some true → Contains v.1 place
  pub is_marked : (place : ℕ) → Contains v.1 place → slice_get v.0 place ≡ Some true
  pub once : AllPairs (λ p q. p ≢ q) v.1
  pub reached : (place : ℕ) → Contains v.1 place → Reached lists place
  pub closed : (n up place : ℕ) → n < done → slice_get v.1 n ≡ Some up
      → Contains (list_at lists up) place → Contains v.1 place
  pub first : 0 < length lists → Contains v.1 0

-- and there are no more
pub record IsVisited (lists : List (List ℕ)) (v : Visit) : Type 0 where
  pub done : ℕ
  pub met : IsMet lists done v
  pub over : length v.1 ≤ done
