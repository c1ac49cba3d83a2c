use Rattle.input_files.specs.Inputs.{CodeRead}
use Rattle.sedona_cli.proofs.ReplaySteps.{input_given, input_refused}
use Rattle.sedona_cli.proofs.inputs.node_image.Goals as goal

pub returns-in-Ok : goal.returns-in-Ok
returns-in-Ok g c = input_given g.F.Files c.args.files.now c.read_code.new.files (CodeRead c.args.name.now) c.read_code.result c.in-Ok.code c.in-Ok.is c.read_code.ensures.read

pub returns-in-Err : goal.returns-in-Err
returns-in-Err g c =
    input_refused g.F.Files c.args.files.now c.read_code.new.files (CodeRead c.args.name.now) c.read_code.result c.in-Err.refusal c.of_inputs.result c.in-Err.is c.of_inputs.ensures c.read_code.ensures.read
