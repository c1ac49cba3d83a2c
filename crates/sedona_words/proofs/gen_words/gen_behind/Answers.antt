use Rattle.std.proofs.Common.{sym, ◌∙◌}
use Rattle.sedona_words.specs.Command.{texts}
use Rattle.sedona_words.proofs.Options.{one_more_generated}
use Rattle.sedona_words.proofs.gen_words.gen_behind.Goals as goal

pub returns-then-not-is_empty-clause-record : goal.returns-then-not-is_empty-clause-record
returns-then-not-is_empty-clause-record c =
    one_more_generated c.args.numbers (texts c.args.words.now) c.in_ok-kits.kits.now c.in_ok-users.users.now c.in_ok-user.user.now c.in_ok-secret.secret.now c.in_ok-out.out.now
    (texts c.in_ok-kits.words.now) (texts c.in_ok-users.words.now) (texts c.in_ok-user.words.now) (texts c.in_ok-secret.words.now) c.in_ok-out.words.now
    c.in_ok-kits.ensures c.in_ok-users.ensures c.in_ok-user.ensures c.in_ok-secret.ensures c.in_ok-out.ensures (sym c.is_empty.ensures ∙ c.if-not-is_empty.true)
