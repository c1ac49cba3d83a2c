use Rattle.input_files.specs.Inputs.{CodeRead, IsCodeOf}
use Rattle.input_files.proofs.Reading.{input_read, input_stops}
use Rattle.input_files.proofs.codes.code_in.Goals as goal

pub returns-in-Ok : goal.returns-in-Ok
unfolding CodeRead
returns-in-Ok g c =
    input_read g.F.Files c.args.files.now c.text_in.new.files IsCodeOf c.args.name.now c.in-Ok.text _ _ c.in-Ok.ensures c.as_slice.ensures c.code_of.ensures

pub returns-in-Err : goal.returns-in-Err
unfolding CodeRead
returns-in-Err g c =
    input_stops g.F.Files c.args.files.now c.text_in.new.files IsCodeOf c.args.name.now c.in-Err.refusal c.in-Err.ensures
