use Rattle.std.proofs.Common.{◌≡◌, ℕ, ◌<◌, true}
use Rattle.kit_manifest.specs.Links.{is_marked}
use Rattle.kit_manifest.proofs.links.first_left.Given as goal

abbrev pub invariant-loop-place : goal.invariant-loop-place
invariant-loop-place l = (i : ℕ) → i < l.place → is_marked l.taken i ≡ true
