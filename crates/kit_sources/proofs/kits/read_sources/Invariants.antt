use Rattle.std.proofs.Common.{take, Ok}
use Rattle.std.specs.Prelude.{All}
use Rattle.sed_outside.specs.Steps.{Each}
use Rattle.sed_outside.specs.Reads.{HasReads}
use Rattle.kit_sources.specs.Sources.{SourceRead}
use Rattle.kit_sources.specs.Text.{IsOfBytes}
use Rattle.kit_sources.proofs.kits.read_sources.Given as goal

abbrev pub invariant-loop-name : goal.invariant-loop-name
invariant-loop-name g l = record {
  read : HasReads g.F.Files l.fn.files l.files (λ reads. Each SourceRead (take l.name-index l.names) reads (Ok l.units.items));
  bytes : All IsOfBytes l.units.items;
}
