use Rattle.std.proofs.Common.{◌≡◌, false, length, replicate}
use Rattle.sed_outline.specs.Rounds.{next_holding, rounds}
use Rattle.sed_outline.proofs.holding.holding.Given as goal

-- the rounds left come to all that is asked
abbrev pub invariant-rounds : goal.invariant-rounds
invariant-rounds l =
    rounds (next_holding l.inside l.inner) l.left l.known.items
    ≡ rounds (next_holding l.inside l.inner) (length l.inside) (replicate (length l.inside) false)

abbrev pub decreases-rounds : goal.decreases-rounds
decreases-rounds l = l.left
