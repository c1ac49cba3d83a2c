use Rattle.std.proofs.Common.{Option, ap, ◌∙◌}
use Rattle.replay_log.specs.declared.asked.GenAsked.{GenAsked}
use Rattle.sedona_words.specs.Command.{gen_behind, texts}
use Rattle.sedona_words.proofs.Options.{four_words}
use Rattle.sedona_words.proofs.gen_words.gen_of.Goals as goal

pub returns-clause-record : goal.returns-clause-record
returns-clause-record c =
    c.gen_behind.ensures.record
    ∙ ap (λ (n : Option GenAsked). gen_behind n (texts c.in_ok-ticks.words.now)) c.gen_numbers-numbers.ensures.numbers
    ∙ four_words (texts c.args.words.now) c.in_ok-seed.seed.now c.in_ok-components.components.now c.in_ok-links.links.now c.in_ok-ticks.ticks.now
    (texts c.in_ok-seed.words.now) (texts c.in_ok-components.words.now) (texts c.in_ok-links.words.now) (texts c.in_ok-ticks.words.now)
    c.in_ok-seed.ensures c.in_ok-components.ensures c.in_ok-links.ensures c.in_ok-ticks.ensures
