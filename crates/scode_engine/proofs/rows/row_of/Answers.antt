use Rattle.std.proofs.Common.{arith}
use Rattle.scode_engine.proofs.Decoded.{row_begins, row_ends, row_grows}
use Rattle.scode_engine.proofs.rows.row_of.Goals as goal

pub loop-at-init : goal.loop-at-init
loop-at-init c = rw c.in_ok-row.ensures.items (row_begins c.args.code.now)

pub loop-at-preserved : goal.loop-at-preserved
loop-at-preserved c =
    rw c.in_ok-push.ensures.items (row_grows c.args.code.now c.loop-at.row.items c.loop-at.at c.decoded.result
    c.loop-at.invariant c.decoded.ensures)

pub returns : goal.returns
returns c =
    row_ends c.args.code.now c.loop-at.row.items c.loop-at.at c.loop-at.invariant
    (let past = c.loop-at-test.false in let within = c.loop-at.auto.at-end in omega (arith, past, within))
