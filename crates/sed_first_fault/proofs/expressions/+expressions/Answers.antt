use Rattle.std.proofs.Common.{arith}
use Rattle.sed_first_fault.proofs.Rows.{row_falls}
use Rattle.sed_first_fault.proofs.expressions.+expressions.Goals as goal

pub expressions-note_expression-requires : goal.expressions-note_expression-requires
expressions-note_expression-requires t c =
    (omega (arith, row_falls c.args.all.now c.loop-e.e-index c.e-item.result c.loop-e-test.true c.e-item.is), tt)

pub steps-step-requires : goal.steps-step-requires
steps-step-requires t c =
    (omega (arith, row_falls c.args.all.now c.loop-link.link-index c.link-item.result c.loop-link-test.true c.link-item.is), tt)
