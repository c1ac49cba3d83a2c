use Rattle.std.proofs.Common.{ℕ, ◌<◌}
use Rattle.kit_manifest.specs.Links.{IsReady}
use Rattle.kit_manifest.proofs.links.first_ready.Given as goal

abbrev pub invariant-loop-place : goal.invariant-loop-place
invariant-loop-place l = (i : ℕ) → i < l.place → IsReady l.links l.taken i → ⊥
