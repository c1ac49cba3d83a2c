use Rattle.std.proofs.Common.{take, Ok}
use Rattle.sed_outside.specs.Steps.{Each}
use Rattle.sed_outside.specs.Reads.{HasReads}
use Rattle.kit_sources.specs.Sources.{KitRead, manifest_at}
use Rattle.kit_sources.specs.Text.{AreOfBytes}
use Rattle.kit_sources.proofs.kits.read_each.Given as goal

abbrev pub invariant-loop-place : goal.invariant-loop-place
invariant-loop-place g l = record {
  read : HasReads g.F.Files l.fn.files l.files (λ reads. Each (λ place. KitRead (manifest_at l.manifests place)) (take l.place-index l.order) reads (Ok l.kits.items));
  bytes : AreOfBytes l.kits.items;
}
