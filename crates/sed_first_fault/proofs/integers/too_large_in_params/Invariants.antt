use Rattle.std.proofs.Common.{◌≡◌, take}
use Rattle.std.specs.List.{flat_map}
use Rattle.sed_units.specs.declared.leaves.Param.{Param}
use Rattle.sed_faults.specs.Faults.{least}
use Rattle.sed_first_fault.specs.Integers.{too_large_in_type}
use Rattle.sed_first_fault.proofs.integers.too_large_in_params.Given as goal

abbrev pub invariant-loop-param : goal.invariant-loop-param
invariant-loop-param l = l.first ≡ least (flat_map (λ (p : Param). too_large_in_type p.kind)
    (take l.param-index l.params))
