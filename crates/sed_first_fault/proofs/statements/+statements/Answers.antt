use Rattle.std.proofs.Common.{arith}
use Rattle.sed_first_fault.proofs.Rows.{row_falls}
use Rattle.sed_first_fault.proofs.statements.+statements.Goals as goal

pub cases-case-requires : goal.cases-case-requires
cases-case-requires t c =
    (omega (arith, row_falls c.args.all.now c.loop-k.k-index c.k-item.result c.loop-k-test.true c.k-item.is), tt)

pub statements-statement-requires : goal.statements-statement-requires
statements-statement-requires t c =
    (omega (arith, row_falls c.args.all.now c.loop-s.s-index c.s-item.result c.loop-s-test.true c.s-item.is), tt)
