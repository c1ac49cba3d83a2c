use Rattle.std.proofs.Common.{ℕ, ◌<◌}
use Rattle.kit_manifest.specs.Order.{IsRepeated}
use Rattle.kit_manifest.proofs.order.first_repeated.Given as goal

abbrev pub invariant-loop-place : goal.invariant-loop-place
invariant-loop-place l = (i : ℕ) → i < l.place → IsRepeated l.list i → ⊥
