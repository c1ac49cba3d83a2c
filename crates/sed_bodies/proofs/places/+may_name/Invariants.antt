use Rattle.sed_units.specs.Tree.{tree_size}
use Rattle.sed_bodies.proofs.places.+may_name.Given as goal

abbrev pub decreases-may_name : goal.decreases-may_name
decreases-may_name l = tree_size l.e.now
