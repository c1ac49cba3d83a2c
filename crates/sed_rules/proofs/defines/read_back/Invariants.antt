use Rattle.std.proofs.Common.{◌≡◌, ◌≤◌, drop, length}
use Rattle.sed_rules.specs.Plains.{as_constant}
use Rattle.sed_rules.specs.Reading.{read_back}
use Rattle.sed_rules.proofs.defines.read_back.Given as goal

-- read through the defines from the place on
abbrev pub invariant-backwards : goal.invariant-backwards
invariant-backwards l = record {
  within : l.left ≤ length l.kinds;
  so_far : as_constant l.value ≡ read_back (drop l.left l.kinds) (as_constant l.fn.last);
}

abbrev pub decreases-backwards : goal.decreases-backwards
decreases-backwards l = l.left
