use Rattle.std.proofs.Common.{arith, sym, ap, ◌∙◌}
use Rattle.sed_outline.specs.Rounds.{next_sizes}
use Rattle.sed_outline.proofs.Rounds.{round_more, round_none, round_same}
use Rattle.sed_outline.proofs.Measures.{sizes_reached}
use Rattle.sed_outline.proofs.sizes.data_sizes.Goals as goal

pub returns-then-are_same_sizes : goal.returns-then-are_same_sizes
returns-then-are_same_sizes c =
    round_same
    (next_sizes c.args.based.now)
    c.rounds.left
    c.rounds.sizes.items
    _
    (ap (next_sizes c.args.based.now) (sym c.as_slice.ensures.value)
    ∙ sym c.in_ok-next.ensures
    ∙ sym c.as_slice-in-rounds.ensures.value
    ∙ c.are_same_sizes.ensures c.if-are_same_sizes.true
    ∙ c.as_slice-in-rounds-2.ensures.value)
    (c.rounds.invariant ∙ sizes_reached c.args.based.now)

pub rounds-preserved : goal.rounds-preserved
rounds-preserved c =
    round_more
    (next_sizes c.args.based.now)
    c.rounds.left
    c.rounds.sizes.items
    c.in_ok-next.next.items
    _
    (omega arith)
    (c.in_ok-next.ensures ∙ ap (next_sizes c.args.based.now) c.as_slice.ensures.value)
    c.rounds.invariant

pub returns : goal.returns
returns c =
    round_none
    (next_sizes c.args.based.now)
    c.rounds.left
    c.rounds.sizes.items
    _
    (omega arith)
    (c.rounds.invariant ∙ sizes_reached c.args.based.now)
