use Rattle.std.proofs.Common.{◌<◌, ◌+◌, ◌*◌, sym, ap, ◌∙◌, arith}
use Rattle.node_table.specs.Taken.{is_taken}
use Rattle.node_table.proofs.TakenLemmas.{below_taken, here_free, open_word}
use Rattle.node_table.proofs.taken.Taken.first_free.Goals as goal

pub bounds-self-inside-word : goal.bounds-self-inside-word
bounds-self-inside-word c =
    open_word c.self.inside.words c.first_open-word.result c.requires.0 c.self.told c.requires.1 (ap (λ words. is_taken words c.requires.0) c.self.view_is ∙ c.requires.2) c.first_open-word.ensures.below c.first_open-word.ensures.within

pub lowest_open-bit-requires : goal.lowest_open-bit-requires
lowest_open-bit-requires c =
    let lt : c.first_open-word.result < 64 = open_word c.self.inside.words c.first_open-word.result c.requires.0 c.self.told c.requires.1 (ap (λ words. is_taken words c.requires.0) c.self.view_is ∙ c.requires.2) c.first_open-word.ensures.below c.first_open-word.ensures.within in
    c.first_open-word.ensures.open (omega arith)

pub returns-clause-free : goal.returns-clause-free
returns-clause-free c =
    ap (λ words. is_taken words (c.first_open-word.result * 64 + c.lowest_open-bit.result)) (sym c.self.view_is)
    ∙ here_free c.self.inside.words c.first_open-word.result c.lowest_open-bit.result c.lowest_open-bit.ensures.bound c.lowest_open-bit.ensures.open

pub returns-clause-least : goal.returns-clause-least
returns-clause-least c = λ id lt.
    ap (λ words. is_taken words id) (sym c.self.view_is)
    ∙ below_taken c.self.inside.words c.first_open-word.result c.lowest_open-bit.result c.lowest_open-bit.ensures.bound c.first_open-word.ensures.below c.lowest_open-bit.ensures.below id lt

pub returns-clause-bound : goal.returns-clause-bound
returns-clause-bound c =
    let lt : c.first_open-word.result < 64 = open_word c.self.inside.words c.first_open-word.result c.requires.0 c.self.told c.requires.1 (ap (λ words. is_taken words c.requires.0) c.self.view_is ∙ c.requires.2) c.first_open-word.ensures.below c.first_open-word.ensures.within in
    let bit = c.lowest_open-bit.ensures.bound in omega arith
