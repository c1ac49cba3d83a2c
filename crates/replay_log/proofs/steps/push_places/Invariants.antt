use Rattle.std.proofs.Common.{◌≡◌, ◌++◌, map, take}
use Rattle.replay_log.specs.Generated.{place}
use Rattle.replay_log.proofs.steps.push_places.Given as goal

abbrev pub invariant-loop-slot : goal.invariant-loop-slot
invariant-loop-slot l = l.places.items ≡ l.fn.places.items ++ map (place l.id) (take l.slot-index l.slots)
