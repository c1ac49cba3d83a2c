use Rattle.kit_sources.specs.Sources.{names_of}
use Rattle.kit_sources.proofs.Whole.{as_many, all_goes, all_stops}
use Rattle.kit_sources.proofs.kits.read_kits.Goals as goal

pub read_known-requires : goal.read_known-requires
read_known-requires g c =
    as_many g.F.Files c.args.files.now c.read_manifests.new.files c.args.names.now c.in-Ok.manifests c.as_slice.result.now c.as_slice.ensures c.in-Ok.ensures

pub returns-in-Ok-clause-read : goal.returns-in-Ok-clause-read
returns-in-Ok-clause-read g c =
    all_goes g.F.Files c.args.files.now c.read_manifests.new.files c.read_known.new.files (names_of c.args.names.now) c.in-Ok.manifests c.as_slice.result.now _
    c.as_slice.ensures c.in-Ok.ensures c.read_known.ensures.read

pub returns-in-Err-clause-read : goal.returns-in-Err-clause-read
returns-in-Err-clause-read g c =
    all_stops g.F.Files c.args.files.now c.read_manifests.new.files (names_of c.args.names.now) c.in-Err.refusal c.in-Err.ensures
