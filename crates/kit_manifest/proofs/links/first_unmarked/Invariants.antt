use Rattle.std.proofs.Common.{take}
use Rattle.kit_manifest.specs.Links.{AreMarked}
use Rattle.kit_manifest.proofs.links.first_unmarked.Given as goal

abbrev pub invariant-loop-place : goal.invariant-loop-place
invariant-loop-place l = AreMarked l.marks (take l.place-index l.places)
