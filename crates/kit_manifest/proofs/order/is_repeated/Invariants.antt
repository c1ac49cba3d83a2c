use Rattle.std.proofs.Common.{◌≡◌, ◌≢◌, ℕ, ◌<◌}
use Rattle.kit_manifest.specs.Order.{name_of}
use Rattle.kit_manifest.proofs.order.is_repeated.Given as goal

abbrev pub invariant-loop-other : goal.invariant-loop-other
invariant-loop-other l = (j : ℕ) → j < l.other → j ≢ l.place → name_of l.list j ≡ name_of l.list l.place → ⊥
