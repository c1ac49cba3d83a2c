use Rattle.std.proofs.Common.{◌≡◌, take}
use Rattle.std.specs.List.{flat_map}
use Rattle.sed_units.specs.declared.leaves.Facet.{Facet}
use Rattle.sed_faults.specs.Faults.{least}
use Rattle.sed_classes.specs.LimitRules.{too_long_name}
use Rattle.sed_rules.proofs.limits.too_long_in_facets.Given as goal

-- the least of the facets so far
abbrev pub invariant-loop-facet : goal.invariant-loop-facet
invariant-loop-facet l = l.first ≡ least (flat_map (λ (f : Facet). too_long_name f.name) (take l.facet-index l.facets))
