use Rattle.std.proofs.Common.{sym, ◌∙◌}
use Rattle.sedona_words.specs.Command.{texts}
use Rattle.sedona_words.proofs.Options.{all_booted, one_more_booted, six_options, three_options}
use Rattle.sedona_words.proofs.boot_words.boot_of.Goals as goal

pub returns-then-not-is_empty-clause-run : goal.returns-then-not-is_empty-clause-run
returns-then-not-is_empty-clause-run c =
    one_more_booted c.option_or-3.result.1.now _ (sym c.is_empty.ensures ∙ c.if-not-is_empty.true)
    ∙ three_options c.in_ok-image.image.now c.in_ok-store.store.now c.in_ok-users.users.now c.in_ok-secret.secret.now c.in_ok-port.port.now c.in_ok-cycles.cycles.now c.option_or.result.0.now c.option_or-2.result.0.now c.option_or-3.result.0.now
    (texts c.in_ok-cycles.words.now) (texts c.option_or.result.1.now) (texts c.option_or-2.result.1.now) (texts c.option_or-3.result.1.now) c.option_or.ensures c.option_or-2.ensures c.option_or-3.ensures
    ∙ six_options (texts c.args.words.now) c.in_ok-image.image.now c.in_ok-store.store.now c.in_ok-users.users.now c.in_ok-secret.secret.now c.in_ok-port.port.now c.in_ok-cycles.cycles.now
    (texts c.in_ok-image.words.now) (texts c.in_ok-store.words.now) (texts c.in_ok-users.words.now) (texts c.in_ok-secret.words.now) (texts c.in_ok-port.words.now) (texts c.in_ok-cycles.words.now)
    c.in_ok-image.ensures c.in_ok-store.ensures c.in_ok-users.ensures c.in_ok-secret.ensures c.in_ok-port.ensures c.in_ok-cycles.ensures

pub returns-clause-run : goal.returns-clause-run
returns-clause-run c =
    c.boot_named.ensures.run
    ∙ all_booted c.option_or-3.result.1.now _ (sym c.is_empty.ensures ∙ c.if-not-is_empty.false)
    ∙ three_options c.in_ok-image.image.now c.in_ok-store.store.now c.in_ok-users.users.now c.in_ok-secret.secret.now c.in_ok-port.port.now c.in_ok-cycles.cycles.now c.option_or.result.0.now c.option_or-2.result.0.now c.option_or-3.result.0.now
    (texts c.in_ok-cycles.words.now) (texts c.option_or.result.1.now) (texts c.option_or-2.result.1.now) (texts c.option_or-3.result.1.now) c.option_or.ensures c.option_or-2.ensures c.option_or-3.ensures
    ∙ six_options (texts c.args.words.now) c.in_ok-image.image.now c.in_ok-store.store.now c.in_ok-users.users.now c.in_ok-secret.secret.now c.in_ok-port.port.now c.in_ok-cycles.cycles.now
    (texts c.in_ok-image.words.now) (texts c.in_ok-store.words.now) (texts c.in_ok-users.words.now) (texts c.in_ok-secret.words.now) (texts c.in_ok-port.words.now) (texts c.in_ok-cycles.words.now)
    c.in_ok-image.ensures c.in_ok-store.ensures c.in_ok-users.ensures c.in_ok-secret.ensures c.in_ok-port.ensures c.in_ok-cycles.ensures
