use Rattle.std.proofs.Common.{◌≡◌, take}
use Rattle.row_tree.specs.Visits.{meet_each as met_by_each}
use Rattle.row_tree.proofs.reach.meet_each.Given as goal

abbrev pub invariant-loop-place : goal.invariant-loop-place
invariant-loop-place l = (l.met.items, l.order.items) ≡ met_by_each (l.initial.met.items, l.initial.order.items) (take l.place-index l.places)
