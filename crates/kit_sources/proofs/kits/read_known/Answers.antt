use Rattle.kit_sources.specs.Sources.{names_of}
use Rattle.kit_sources.proofs.Whole.{known_goes, known_stops}
use Rattle.kit_sources.proofs.kits.read_known.Goals as goal

pub returns-in-Ok-clause-read : goal.returns-in-Ok-clause-read
returns-in-Ok-clause-read g c =
    known_goes g.F.Files c.args.files.now c.read_ordered.new.files (names_of c.args.names.now) c.args.manifests.now c.in-Ok.order c.as_slice.result.now _
    c.in-Ok.ensures.ordered c.as_slice.ensures c.read_ordered.ensures.read

pub returns-in-Err-clause-read : goal.returns-in-Err-clause-read
returns-in-Err-clause-read g c =
    known_stops g.F.Files c.args.files.now (names_of c.args.names.now) c.args.manifests.now c.in-Err.refusal c.in-Err.ensures.ordered
