use Rattle.std.proofs.Common.{◌+◌, ◌-◌, length}
use Rattle.sed_classes.specs.Indexed.{IsSame}
use Rattle.sed_classes.proofs.index.reach.Given as goal

-- nothing more is found so far
abbrev pub invariant-grow : goal.invariant-grow
invariant-grow l = IsSame l.initial.groups.items l.groups.items

abbrev pub decreases-grow : goal.decreases-grow
decreases-grow l = l.group + 1 - length l.groups.items
