use Rattle.std.proofs.Common.{◌≡◌, take}
use Rattle.std.specs.List.{flat_map}
use Rattle.sed_units.specs.declared.leaves.Facet.{Facet}
use Rattle.sed_faults.specs.Faults.{least}
use Rattle.sed_first_fault.specs.Integers.{too_large_value}
use Rattle.sed_first_fault.proofs.integers.too_large_in_facets.Given as goal

abbrev pub invariant-loop-facet : goal.invariant-loop-facet
invariant-loop-facet l = l.first ≡ least (flat_map (λ (f : Facet). too_large_value f.value)
    (take l.facet-index l.facets))
