use Rattle.kit_manifest.proofs.Kits.{Needs}
use Rattle.kit_manifest.proofs.order.needs_of.Given as goal

abbrev pub invariant-loop-other : goal.invariant-loop-other
invariant-loop-other l = Needs l.list l.place l.needs.items l.other
