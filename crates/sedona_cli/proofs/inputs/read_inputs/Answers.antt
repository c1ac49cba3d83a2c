use Rattle.std.proofs.Common.{ap}
use Rattle.scode_code.specs.Image.{meaning_of}
use Rattle.sedona_words.specs.Asked.{asked_node}
use Rattle.sedona_cli.specs.Given.{ended_as}
use Rattle.sedona_cli.proofs.ReplaySteps.{all_read, code_refused, record_refused, secret_refused, users_refused}
use Rattle.sedona_cli.proofs.inputs.read_inputs.Goals as goal

pub returns-in-Err-clause-read : goal.returns-in-Err-clause-read
returns-in-Err-clause-read g c =
    code_refused g.F.Files (asked_node c.args.words) c.args.file.now c.args.files.now c.node_code.new.files (ended_as meaning_of c.node_code.result) c.node_code.ensures c.in-Err.refusal (ap (ended_as meaning_of) c.in-Err.is)

pub returns-in-Err-node_users-clause-read : goal.returns-in-Err-node_users-clause-read
returns-in-Err-node_users-clause-read g c =
    users_refused g.F.Files (asked_node c.args.words) c.args.file.now c.args.files.now c.node_code.new.files (ended_as meaning_of c.node_code.result) c.node_code.ensures
    (meaning_of c.in-Ok.code) (ap (ended_as meaning_of) c.in-Ok.is) c.node_users.new.files c.node_users.result c.node_users.ensures c.in-Err-node_users.refusal c.in-Err-node_users.is

pub returns-in-Err-node_secret-clause-read : goal.returns-in-Err-node_secret-clause-read
returns-in-Err-node_secret-clause-read g c =
    secret_refused g.F.Files (asked_node c.args.words) c.args.file.now c.args.files.now c.node_code.new.files (ended_as meaning_of c.node_code.result) c.node_code.ensures
    (meaning_of c.in-Ok.code) (ap (ended_as meaning_of) c.in-Ok.is) c.node_users.new.files c.node_users.result c.node_users.ensures
    c.in-Ok-node_users.users c.in-Ok-node_users.is c.node_secret.new.files c.node_secret.result c.node_secret.ensures c.in-Err-node_secret.refusal c.in-Err-node_secret.is

pub returns-in-Ok-record_text-clause-read : goal.returns-in-Ok-record_text-clause-read
returns-in-Ok-record_text-clause-read g c =
    all_read g.F.Files (asked_node c.args.words) c.args.file.now c.args.files.now c.node_code.new.files (ended_as meaning_of c.node_code.result) c.node_code.ensures
    (meaning_of c.in-Ok.code) (ap (ended_as meaning_of) c.in-Ok.is) c.node_users.new.files c.node_users.result c.node_users.ensures
    c.in-Ok-node_users.users c.in-Ok-node_users.is c.node_secret.new.files c.node_secret.result c.node_secret.ensures
    c.in-Ok-node_secret.secret c.in-Ok-node_secret.is c.record_text.new.files c.record_text.result c.record_text.ensures.read c.in-Ok-record_text.text c.in-Ok-record_text.is

pub returns-in-Err-record_text-clause-read : goal.returns-in-Err-record_text-clause-read
returns-in-Err-record_text-clause-read g c =
    record_refused g.F.Files (asked_node c.args.words) c.args.file.now c.args.files.now c.node_code.new.files (ended_as meaning_of c.node_code.result) c.node_code.ensures
    (meaning_of c.in-Ok.code) (ap (ended_as meaning_of) c.in-Ok.is) c.node_users.new.files c.node_users.result c.node_users.ensures
    c.in-Ok-node_users.users c.in-Ok-node_users.is c.node_secret.new.files c.node_secret.result c.node_secret.ensures
    c.in-Ok-node_secret.secret c.in-Ok-node_secret.is c.record_text.new.files c.record_text.result c.record_text.ensures.read c.in-Err-record_text.refusal c.in-Err-record_text.is
