use Rattle.std.proofs.Common.{take}
use Rattle.kit_manifest.specs.Links.{Reaches}
use Rattle.kit_manifest.proofs.links.reach.Given as goal

abbrev pub invariant-loop-place : goal.invariant-loop-place
invariant-loop-place l = Reaches (take l.place-index l.places) l.initial.reached.items l.reached.items l.initial.waiting.items l.waiting.items
