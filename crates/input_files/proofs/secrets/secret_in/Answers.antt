use Rattle.input_files.specs.Inputs.{IsSecretOf, SecretRead}
use Rattle.input_files.proofs.Reading.{input_read, input_stops}
use Rattle.input_files.proofs.secrets.secret_in.Goals as goal

pub returns-in-Ok : goal.returns-in-Ok
unfolding SecretRead
returns-in-Ok g c =
    input_read g.F.Files c.args.files.now c.text_in.new.files IsSecretOf c.args.name.now c.in-Ok.text _ _ c.in-Ok.ensures c.as_slice.ensures c.secret_of.ensures

pub returns-in-Err : goal.returns-in-Err
unfolding SecretRead
returns-in-Err g c =
    input_stops g.F.Files c.args.files.now c.text_in.new.files IsSecretOf c.args.name.now c.in-Err.refusal c.in-Err.ensures
