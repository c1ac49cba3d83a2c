use Rattle.kit_manifest.specs.Links.{unmarked_count}
use Rattle.kit_manifest.proofs.Orders.{Taken}
use Rattle.kit_manifest.proofs.links.order_of.Given as goal

abbrev pub invariant-loop-next : goal.invariant-loop-next
invariant-loop-next l = Taken l.links l.taken.items l.order.items

abbrev pub decreases-loop-next : goal.decreases-loop-next
decreases-loop-next l = unmarked_count l.taken.items
