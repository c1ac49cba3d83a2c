use Rattle.input_files.specs.Inputs.{RecordRead}
use Rattle.sedona_cli.proofs.ReplaySteps.{input_given, input_refused}
use Rattle.sedona_cli.proofs.inputs.record_text.Goals as goal

pub returns-in-Ok-clause-read : goal.returns-in-Ok-clause-read
returns-in-Ok-clause-read g c = input_given g.F.Files c.args.files.now c.read_record.new.files (RecordRead c.args.name.now) c.read_record.result c.in-Ok.text c.in-Ok.is c.read_record.ensures.read

pub returns-in-Err-clause-read : goal.returns-in-Err-clause-read
returns-in-Err-clause-read g c =
    input_refused g.F.Files c.args.files.now c.read_record.new.files (RecordRead c.args.name.now) c.read_record.result c.in-Err.refusal c.of_inputs.result c.in-Err.is c.of_inputs.ensures c.read_record.ensures.read
