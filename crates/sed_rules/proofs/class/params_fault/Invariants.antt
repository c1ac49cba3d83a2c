use Rattle.std.proofs.Common.{◌≡◌, take}
use Rattle.sed_faults.specs.Faults.{least, said_from}
use Rattle.sed_classes.specs.Faults.{param_faults}
use Rattle.sed_rules.proofs.class.params_fault.Given as goal

-- the least of the parameters so far
abbrev pub invariant-loop-number : goal.invariant-loop-number
invariant-loop-number l = l.first ≡ least (said_from (param_faults l.classes l.kit) 0 (take l.number l.params))
