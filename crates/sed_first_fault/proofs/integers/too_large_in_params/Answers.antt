use Rattle.std.proofs.Common.{arith, sym}
use Rattle.sed_units.specs.declared.leaves.Param.{Param}
use Rattle.sed_faults.proofs.Rows.{listed_step}
use Rattle.sed_first_fault.specs.Integers.{too_large_in_type}
use Rattle.sed_first_fault.proofs.integers.too_large_in_params.Goals as goal

pub loop-param-preserved : goal.loop-param-preserved
loop-param-preserved c =
    listed_step
    (λ (p : Param). too_large_in_type p.kind)
    c.loop-param.param-index
    c.args.params.now
    c.param-item.result
    c.loop-param.first
    c.too_large_in_type.result
    c.joined-first.result
    (omega arith)
    (sym c.param-item.is)
    c.too_large_in_type.ensures
    c.joined-first.ensures.lesser
    c.loop-param.invariant
