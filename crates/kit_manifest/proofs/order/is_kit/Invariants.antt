use Rattle.std.proofs.Common.{◌≡◌, ℕ, ◌<◌}
use Rattle.kit_manifest.specs.Order.{name_of}
use Rattle.kit_manifest.proofs.order.is_kit.Given as goal

abbrev pub invariant-loop-kit : goal.invariant-loop-kit
invariant-loop-kit l = (j : ℕ) → j < l.kit-index → name_of l.list j ≡ l.name → ⊥
