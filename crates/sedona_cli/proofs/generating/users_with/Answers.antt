use Rattle.sedona_cli.proofs.GenSteps.{user_is, users_are, users_found, users_refused}
use Rattle.sedona_cli.proofs.generating.users_with.Goals as goal

pub returns-in-Ok-clause-read : goal.returns-in-Ok-clause-read
returns-in-Ok-clause-read g c =
    users_found g.F.Files c.args.files.now c.node_users.new.files c.args.name.now c.args.user.now c.node_users.result c.in-Ok.users c.with_user.result c.in-Ok.is c.node_users.ensures c.with_user.ensures

pub returns-in-Ok-clause-users : goal.returns-in-Ok-clause-users
returns-in-Ok-clause-users g c =
    users_are g.F.Files c.args.files.now c.node_users.new.files c.args.name.now c.args.user.now c.node_users.result c.in-Ok.users c.with_user.result c.in-Ok.is c.node_users.ensures c.with_user.ensures

pub returns-in-Err-clause-read : goal.returns-in-Err-clause-read
returns-in-Err-clause-read g c =
    users_refused g.F.Files c.args.files.now c.node_users.new.files c.args.name.now c.args.user.now c.node_users.result c.in-Err.refusal c.in-Err.is c.node_users.ensures

pub returns-in-Ok-clause-among : goal.returns-in-Ok-clause-among
returns-in-Ok-clause-among g c = user_is c.args.user.now c.in-Ok.users c.with_user.result c.with_user.ensures
