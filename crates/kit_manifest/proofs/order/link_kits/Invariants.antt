use Rattle.kit_manifest.proofs.Kits.{Linked}
use Rattle.kit_manifest.proofs.order.link_kits.Given as goal

abbrev pub invariant-loop-place : goal.invariant-loop-place
invariant-loop-place l = Linked l.list l.links.items l.place
