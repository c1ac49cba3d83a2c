use Rattle.std.proofs.Common.{sym, ◌∙◌}
use Rattle.sedona_words.specs.Command.{texts}
use Rattle.sedona_words.proofs.Options.{one_more}
use Rattle.sedona_words.proofs.command.new_of.Goals as goal

pub returns-then-not-is_empty-clause-command : goal.returns-then-not-is_empty-clause-command
returns-then-not-is_empty-clause-command c =
    one_more (texts c.args.words.now) c.in_ok-kits.kits.now c.in_ok-store.store.now c.in_ok-slot.slot.now (texts c.in_ok-kits.words.now) (texts c.in_ok-store.words.now) c.in_ok-slot.words.now
    c.in_ok-kits.ensures c.in_ok-store.ensures c.in_ok-slot.ensures (sym c.is_empty.ensures ∙ c.if-not-is_empty.true)
