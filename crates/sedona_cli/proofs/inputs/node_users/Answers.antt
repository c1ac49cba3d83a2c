use Rattle.input_files.specs.Inputs.{UsersRead}
use Rattle.sedona_cli.proofs.ReplaySteps.{input_given, input_refused}
use Rattle.sedona_cli.proofs.inputs.node_users.Goals as goal

pub returns-in-Ok : goal.returns-in-Ok
returns-in-Ok g c = input_given g.F.Files c.args.files.now c.read_users.new.files (UsersRead c.args.name.now) c.read_users.result c.in-Ok.users c.in-Ok.is c.read_users.ensures.read

pub returns-in-Err : goal.returns-in-Err
returns-in-Err g c =
    input_refused g.F.Files c.args.files.now c.read_users.new.files (UsersRead c.args.name.now) c.read_users.result c.in-Err.refusal c.of_inputs.result c.in-Err.is c.of_inputs.ensures c.read_users.ensures.read
