use Rattle.std.proofs.Common.{◌∙◌}
use Rattle.kit_sources.proofs.Whole.{kit_done, kit_stops}
use Rattle.kit_sources.proofs.kits.read_kit.Goals as goal

pub returns-in-Ok-copy_of-clause-read : goal.returns-in-Ok-copy_of-clause-read
returns-in-Ok-copy_of-clause-read g c =
    kit_done g.F.Files c.args.files.now c.read_sources.new.files c.args.manifest.now c.as_slice.result.now c.in-Ok-copy_of.depends c.in-Ok.units
    c.as_slice.ensures (c.in-Ok-copy_of.ensures ∙ c.as_slice-in-Ok.ensures) c.in-Ok.ensures.read

pub returns-in-Err-clause-read : goal.returns-in-Err-clause-read
returns-in-Err-clause-read g c =
    kit_stops g.F.Files c.args.files.now c.read_sources.new.files c.args.manifest.now c.as_slice.result.now c.in-Err.refusal c.as_slice.ensures c.in-Err.ensures.read
