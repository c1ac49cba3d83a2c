use Rattle.std.proofs.Common.{◌≡◌, ◌∷◌, ◌++◌}
use Rattle.sed_classes.specs.Bases.{base_of}
use Rattle.sed_classes.specs.Ends.{gone_through}
use Rattle.sed_classes.proofs.bases.Based.straight_lineage.Given as goal

-- what was gone through, and what is left to go through
abbrev pub invariant-climb : goal.invariant-climb
invariant-climb l =
    l.far.items ++ gone_through (base_of l.self) l.left l.next
    ≡ l.class ∷ gone_through (base_of l.self) l.count (base_of l.self l.class)

abbrev pub decreases-climb : goal.decreases-climb
decreases-climb l = l.left
