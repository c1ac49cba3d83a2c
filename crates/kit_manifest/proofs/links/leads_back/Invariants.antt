use Rattle.std.proofs.Common.{◌+◌, length}
use Rattle.kit_manifest.specs.Links.{unmarked_count}
use Rattle.kit_manifest.proofs.Seeks.{Seeks}
use Rattle.kit_manifest.proofs.links.leads_back.Given as goal

abbrev pub invariant-loop-place : goal.invariant-loop-place
invariant-loop-place l = Seeks l.links l.from l.reached.items l.waiting.items

abbrev pub decreases-loop-place : goal.decreases-loop-place
decreases-loop-place l = unmarked_count l.reached.items + length l.waiting.items
