use Rattle.std.proofs.Common.{ℕ, ◌<◌}
use Rattle.kit_manifest.specs.Links.{IsLink}
use Rattle.kit_manifest.specs.Walk.{Walk}
use Rattle.kit_manifest.proofs.links.first_on_cycle.Given as goal

abbrev pub invariant-loop-place : goal.invariant-loop-place
invariant-loop-place l = (i : ℕ) → i < l.place → Walk (IsLink l.links) i i → ⊥
