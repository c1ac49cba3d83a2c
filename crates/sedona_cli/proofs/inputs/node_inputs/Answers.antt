use Rattle.std.proofs.Common.{ap}
use Rattle.scode_code.specs.Image.{meaning_of}
use Rattle.sedona_words.specs.Asked.{asked_node}
use Rattle.sedona_cli.specs.Given.{ended_as}
use Rattle.sedona_cli.proofs.LiveSteps.{run_all_read, run_code_refused, run_secret_refused, run_users_refused}
use Rattle.sedona_cli.proofs.inputs.node_inputs.Goals as goal

pub returns-in-Err : goal.returns-in-Err
returns-in-Err g c =
    run_code_refused g.F.Files (asked_node c.args.words) c.args.files.now c.node_code.new.files (ended_as meaning_of c.node_code.result) c.node_code.ensures c.in-Err.refusal (ap (ended_as meaning_of) c.in-Err.is)

pub returns-in-Err-node_users : goal.returns-in-Err-node_users
returns-in-Err-node_users g c =
    run_users_refused g.F.Files (asked_node c.args.words) c.args.files.now c.node_code.new.files (ended_as meaning_of c.node_code.result) c.node_code.ensures
    (meaning_of c.in-Ok.code) (ap (ended_as meaning_of) c.in-Ok.is) c.node_users.new.files c.node_users.result c.node_users.ensures c.in-Err-node_users.refusal c.in-Err-node_users.is

pub returns-in-Ok-node_secret : goal.returns-in-Ok-node_secret
returns-in-Ok-node_secret g c =
    run_all_read g.F.Files (asked_node c.args.words) c.args.files.now c.node_code.new.files (ended_as meaning_of c.node_code.result) c.node_code.ensures
    (meaning_of c.in-Ok.code) (ap (ended_as meaning_of) c.in-Ok.is) c.node_users.new.files c.node_users.result c.node_users.ensures
    c.in-Ok-node_users.users c.in-Ok-node_users.is c.node_secret.new.files c.node_secret.result c.node_secret.ensures c.in-Ok-node_secret.secret c.in-Ok-node_secret.is

pub returns-in-Err-node_secret : goal.returns-in-Err-node_secret
returns-in-Err-node_secret g c =
    run_secret_refused g.F.Files (asked_node c.args.words) c.args.files.now c.node_code.new.files (ended_as meaning_of c.node_code.result) c.node_code.ensures
    (meaning_of c.in-Ok.code) (ap (ended_as meaning_of) c.in-Ok.is) c.node_users.new.files c.node_users.result c.node_users.ensures
    c.in-Ok-node_users.users c.in-Ok-node_users.is c.node_secret.new.files c.node_secret.result c.node_secret.ensures c.in-Err-node_secret.refusal c.in-Err-node_secret.is
