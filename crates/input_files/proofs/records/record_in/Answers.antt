use Rattle.std.proofs.Common.{refl}
use Rattle.input_files.specs.Inputs.{IsRecordOf, RecordRead}
use Rattle.input_files.proofs.Reading.{input_read, input_stops}
use Rattle.input_files.proofs.records.record_in.Goals as goal

pub returns-in-Ok-clause-read : goal.returns-in-Ok-clause-read
unfolding RecordRead
returns-in-Ok-clause-read g c =
    input_read g.F.Files c.args.files.now c.text_in.new.files IsRecordOf c.args.name.now c.in-Ok.text c.in-Ok.text _ c.in-Ok.ensures refl c.record_of.ensures.of_bytes

pub returns-in-Err-clause-read : goal.returns-in-Err-clause-read
unfolding RecordRead
returns-in-Err-clause-read g c =
    input_stops g.F.Files c.args.files.now c.text_in.new.files IsRecordOf c.args.name.now c.in-Err.refusal c.in-Err.ensures
