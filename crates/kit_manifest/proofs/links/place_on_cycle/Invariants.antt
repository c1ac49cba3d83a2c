use Rattle.std.proofs.Common.{◌≡◌, ℕ, ◌<◌, true, false, length}
use Rattle.kit_manifest.specs.Links.{IsLink, is_marked, unmarked_count}
use Rattle.kit_manifest.specs.Walk.{Walk}
use Rattle.kit_manifest.proofs.links.place_on_cycle.Given as goal

abbrev pub invariant-loop-seen : goal.invariant-loop-seen
invariant-loop-seen l = record {
  same_length : length l.seen.items ≡ length l.links;
  within : l.place < length l.links;
  left : is_marked l.taken l.place ≡ false;
  led : (i : ℕ) → is_marked l.seen.items i ≡ true → Walk (IsLink l.links) i l.place;
}

abbrev pub decreases-loop-seen : goal.decreases-loop-seen
decreases-loop-seen l = unmarked_count l.seen.items
