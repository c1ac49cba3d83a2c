use Rattle.sedona_words.specs.Asked.{asked_record}
use Rattle.sedona_cli.proofs.GenSteps.{all_given, kits_stop, secret_stops, users_stop}
use Rattle.sedona_cli.proofs.generating.record_inputs.Goals as goal

pub returns-in-Err-clause-read : goal.returns-in-Err-clause-read
returns-in-Err-clause-read g c =
    kits_stop g.F.Files (asked_record c.args.words) c.args.files.now c.node_program.new.files c.node_program.result c.node_program.ensures c.in-Err.refusal c.in-Err.is

pub returns-in-Err-users_with-clause-read : goal.returns-in-Err-users_with-clause-read
returns-in-Err-users_with-clause-read g c =
    users_stop g.F.Files (asked_record c.args.words) c.args.files.now c.node_program.new.files c.node_program.result c.node_program.ensures
    c.in-Ok.program c.in-Ok.is c.users_with.new.files c.users_with.result c.users_with.ensures.read c.in-Err-users_with.refusal c.in-Err-users_with.is

pub returns-in-Ok-node_secret-clause-read : goal.returns-in-Ok-node_secret-clause-read
returns-in-Ok-node_secret-clause-read g c =
    all_given g.F.Files (asked_record c.args.words) c.args.files.now c.node_program.new.files c.node_program.result c.node_program.ensures
    c.in-Ok.program c.in-Ok.is c.users_with.new.files c.users_with.result c.users_with.ensures.read
    c.in-Ok-users_with.users c.in-Ok-users_with.is c.node_secret.new.files c.node_secret.result c.node_secret.ensures c.in-Ok-node_secret.secret c.in-Ok-node_secret.is

pub returns-in-Err-node_secret-clause-read : goal.returns-in-Err-node_secret-clause-read
returns-in-Err-node_secret-clause-read g c =
    secret_stops g.F.Files (asked_record c.args.words) c.args.files.now c.node_program.new.files c.node_program.result c.node_program.ensures
    c.in-Ok.program c.in-Ok.is c.users_with.new.files c.users_with.result c.users_with.ensures.read
    c.in-Ok-users_with.users c.in-Ok-users_with.is c.node_secret.new.files c.node_secret.result c.node_secret.ensures c.in-Err-node_secret.refusal c.in-Err-node_secret.is
