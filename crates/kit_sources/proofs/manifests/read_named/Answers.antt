use Rattle.kit_sources.specs.Refusals.{IsTextManifest, IsWhyOfManifest}
use Rattle.kit_sources.proofs.Reading.{file_read, file_stops}
use Rattle.kit_sources.proofs.manifests.read_named.Goals as goal

pub returns-in-Ok : goal.returns-in-Ok
returns-in-Ok g c =
    file_read g.F.Files c.args.files.now c.text_in.new.files IsTextManifest IsWhyOfManifest c.args.name.now c.in-Ok.text _ _ c.in-Ok.ensures c.as_slice.ensures c.manifest_of.ensures

pub returns-in-Err : goal.returns-in-Err
returns-in-Err g c =
    file_stops g.F.Files c.args.files.now c.text_in.new.files IsTextManifest IsWhyOfManifest c.args.name.now c.in-Err.refusal c.in-Err.ensures
