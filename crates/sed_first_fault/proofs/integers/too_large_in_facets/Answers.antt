use Rattle.std.proofs.Common.{arith, sym}
use Rattle.sed_units.specs.declared.leaves.Facet.{Facet}
use Rattle.sed_faults.proofs.Rows.{listed_step}
use Rattle.sed_first_fault.specs.Integers.{too_large_value}
use Rattle.sed_first_fault.proofs.integers.too_large_in_facets.Goals as goal

pub loop-facet-preserved : goal.loop-facet-preserved
loop-facet-preserved c =
    listed_step
    (λ (f : Facet). too_large_value f.value)
    c.loop-facet.facet-index
    c.args.facets.now
    c.facet-item.result
    c.loop-facet.first
    c.too_large_value.result
    c.joined-first.result
    (omega arith)
    (sym c.facet-item.is)
    c.too_large_value.ensures
    c.joined-first.ensures.lesser
    c.loop-facet.invariant
