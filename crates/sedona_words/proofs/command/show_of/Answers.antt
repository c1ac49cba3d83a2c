use Rattle.std.proofs.Common.{sym, ◌∙◌}
use Rattle.sedona_words.specs.Command.{texts}
use Rattle.sedona_words.proofs.Options.{one_more_shown}
use Rattle.sedona_words.proofs.command.show_of.Goals as goal

pub returns-then-not-is_empty-clause-command : goal.returns-then-not-is_empty-clause-command
returns-then-not-is_empty-clause-command c =
    one_more_shown (texts c.args.words.now) c.in_ok-kits.kits.now c.in_ok-store.store.now c.option_or.result.0.now (texts c.in_ok-kits.words.now) (texts c.in_ok-store.words.now) c.option_or.result.1.now
    c.in_ok-kits.ensures c.in_ok-store.ensures c.option_or.ensures (sym c.is_empty.ensures ∙ c.if-not-is_empty.true)
