use Rattle.std.proofs.Common.{◌≡◌, ℕ, ◌<◌, ◌≤◌, ◌-◌, length}
use Rattle.std.specs.Prelude.{slice_get, Some}
use Rattle.row_tree.specs.declared.tree_rows.TreeRow.{TreeRow}
use Rattle.row_tree.proofs.order.place_of.Given as goal

-- it stands at none of the places below or above
abbrev pub invariant-loop-low : goal.invariant-loop-low
invariant-loop-low l = record {
  high : l.high ≤ length l.rows;
  below : (k : ℕ) (r : TreeRow) → k < l.low → slice_get l.rows k ≡ Some r → r.id < l.id;
  above : (k : ℕ) (r : TreeRow) → l.high ≤ k → slice_get l.rows k ≡ Some r → l.id < r.id;
}

abbrev pub decreases-loop-low : goal.decreases-loop-low
decreases-loop-low l = l.high - l.low
