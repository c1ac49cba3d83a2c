use Rattle.std.proofs.Common.{◌≡◌, option_map}
use Rattle.sed_classes.specs.FoundMembers.{owned_of}
use Rattle.sed_classes.specs.Values.{constant_of}
use Rattle.sed_rules.specs.Plains.{as_constant}
use Rattle.sed_rules.specs.Reading.{reached, read_back}
use Rattle.sed_rules.proofs.defines.constant_of.Given as goal

-- what is still to be read, through the defines so far, is what is asked
abbrev pub invariant-follow : goal.invariant-follow
invariant-follow l =
    read_back l.kinds.items (reached l.based l.left (option_map owned_of l.next) (as_constant l.last))
    ≡ constant_of l.based l.class l.init

abbrev pub decreases-follow : goal.decreases-follow
decreases-follow l = l.left
