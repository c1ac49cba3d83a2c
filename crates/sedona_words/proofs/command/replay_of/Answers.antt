use Rattle.std.proofs.Common.{sym, ◌∙◌}
use Rattle.sedona_words.specs.Command.{texts}
use Rattle.sedona_words.proofs.Options.{one_more_replayed}
use Rattle.sedona_words.proofs.command.replay_of.Goals as goal

pub returns-then-not-is_empty-clause-command : goal.returns-then-not-is_empty-clause-command
returns-then-not-is_empty-clause-command c =
    one_more_replayed (texts c.args.words.now) c.in_ok-kits.kits.now c.in_ok-store.store.now c.in_ok-users.users.now c.in_ok-secret.secret.now c.in_ok-file.file.now c.option_or.result.0.now c.option_or-2.result.0.now
    (texts c.in_ok-kits.words.now) (texts c.in_ok-store.words.now) (texts c.in_ok-users.words.now) (texts c.in_ok-secret.words.now) (texts c.in_ok-file.words.now) (texts c.option_or.result.1.now) c.option_or-2.result.1.now
    c.in_ok-kits.ensures c.in_ok-store.ensures c.in_ok-users.ensures c.in_ok-secret.ensures c.in_ok-file.ensures c.option_or.ensures c.option_or-2.ensures (sym c.is_empty.ensures ∙ c.if-not-is_empty.true)
