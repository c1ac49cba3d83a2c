use Rattle.std.proofs.Common.{arith, sym}
use Rattle.sed_faults.proofs.Rows.{said_step}
use Rattle.sed_classes.specs.Faults.{param_faults}
use Rattle.sed_rules.proofs.class.params_fault.Goals as goal

pub loop-number-preserved : goal.loop-number-preserved
loop-number-preserved c =
    said_step
    (param_faults c.args.classes.now c.args.kit)
    c.loop-number.number
    c.args.params.now
    c.index-params-number.result
    c.loop-number.first
    c.param_fault.result
    c.joined-first.result
    (omega arith)
    (sym c.index-params-number.is)
    c.param_fault.ensures
    c.joined-first.ensures.lesser
    c.loop-number.invariant
