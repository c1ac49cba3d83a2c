use Rattle.std.proofs.Common.{◌≡◌, length, replicate}
use Rattle.sed_classes.specs.Declarations.{all_classes}
use Rattle.sed_outline.specs.Rounds.{next_sizes, rounds}
use Rattle.sed_outline.proofs.sizes.data_sizes.Given as goal

-- the rounds left come to all that is asked
abbrev pub invariant-rounds : goal.invariant-rounds
invariant-rounds l =
    rounds (next_sizes l.based) l.left l.sizes.items
    ≡ rounds (next_sizes l.based) (length (all_classes l.based)) (replicate (length (all_classes l.based)) 0)

abbrev pub decreases-rounds : goal.decreases-rounds
decreases-rounds l = l.left
