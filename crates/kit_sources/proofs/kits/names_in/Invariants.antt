use Rattle.std.proofs.Common.{◌≡◌, take}
use Rattle.kit_sources.specs.Sources.{files_in}
use Rattle.kit_sources.proofs.kits.names_in.Given as goal

abbrev pub invariant-loop-place : goal.invariant-loop-place
invariant-loop-place l = l.names.items ≡ files_in l.manifests (take l.place-index l.order)
