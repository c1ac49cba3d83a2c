use Rattle.kit_sources.specs.Text.{IsUnit, IsWhyOfSource}
use Rattle.kit_sources.proofs.Reading.{file_read, file_stops}
use Rattle.kit_sources.proofs.source.read_source.Goals as goal

pub returns-in-Ok-clause-read : goal.returns-in-Ok-clause-read
returns-in-Ok-clause-read g c =
    file_read g.F.Files c.args.files.now c.text_in.new.files IsUnit IsWhyOfSource c.args.name.now c.in-Ok.text _ _ c.in-Ok.ensures c.as_slice-in-Ok.ensures c.unit_of.ensures.said

pub returns-in-Err-clause-read : goal.returns-in-Err-clause-read
returns-in-Err-clause-read g c =
    file_stops g.F.Files c.args.files.now c.text_in.new.files IsUnit IsWhyOfSource c.args.name.now c.in-Err.refusal c.in-Err.ensures
