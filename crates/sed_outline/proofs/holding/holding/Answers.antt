use Rattle.std.proofs.Common.{arith, sym, ap, ◌∙◌}
use Rattle.sed_outline.specs.Rounds.{next_holding}
use Rattle.sed_outline.proofs.Rounds.{round_more, round_none, round_same}
use Rattle.sed_outline.proofs.holding.holding.Goals as goal

pub returns-then-are_same_known : goal.returns-then-are_same_known
returns-then-are_same_known c =
    round_same
    (next_holding c.args.inside.now c.args.inner)
    c.rounds.left
    c.rounds.known.items
    _
    (ap (next_holding c.args.inside.now c.args.inner) (sym c.as_slice.ensures.value)
    ∙ sym c.in_ok-next.ensures
    ∙ sym c.as_slice-in-rounds.ensures.value
    ∙ c.are_same_known.ensures c.if-are_same_known.true
    ∙ c.as_slice-in-rounds-2.ensures.value)
    c.rounds.invariant

pub rounds-preserved : goal.rounds-preserved
rounds-preserved c =
    round_more
    (next_holding c.args.inside.now c.args.inner)
    c.rounds.left
    c.rounds.known.items
    c.in_ok-next.next.items
    _
    (omega arith)
    (c.in_ok-next.ensures ∙ ap (next_holding c.args.inside.now c.args.inner) c.as_slice.ensures.value)
    c.rounds.invariant

pub returns : goal.returns
returns c =
    round_none
    (next_holding c.args.inside.now c.args.inner)
    c.rounds.left
    c.rounds.known.items
    _
    (omega arith)
    c.rounds.invariant
