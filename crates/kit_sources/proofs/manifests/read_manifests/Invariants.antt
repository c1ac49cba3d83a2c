use Rattle.std.proofs.Common.{take, Ok}
use Rattle.sed_outside.specs.Steps.{Each}
use Rattle.sed_outside.specs.Reads.{HasReads}
use Rattle.kit_sources.specs.Sources.{ManifestRead, names_of}
use Rattle.kit_sources.proofs.manifests.read_manifests.Given as goal

abbrev pub invariant-loop-name : goal.invariant-loop-name
invariant-loop-name g l = HasReads g.F.Files l.fn.files l.files (λ reads. Each ManifestRead (take l.name-index (names_of l.names)) reads (Ok l.manifests.items))
