use Rattle.std.proofs.Common.{◌≡◌, length}
use Rattle.sed_classes.specs.Declarations.{all_classes}
use Rattle.sed_classes.specs.Bases.{base_of, comes_to}
use Rattle.sed_classes.proofs.bases.Based.leads_to.Given as goal

-- what is left to go answers
abbrev pub invariant-climb : goal.invariant-climb
invariant-climb l =
    comes_to (base_of l.self) l.place l.left l.next
    ≡ comes_to (base_of l.self) l.place (length (all_classes l.self)) (base_of l.self l.class)

abbrev pub decreases-climb : goal.decreases-climb
decreases-climb l = l.left
