use Rattle.scode_state.proofs.Putting.{buf_item}
use Rattle.scode_state.proofs.bufs.buf_byte.Goals as goal

pub returns-clause-path : goal.returns-clause-path
returns-clause-path c = λ image class base path n bytes at is within.
    buf_item image class base path c.args.pool.now c.args.b c.args.at n at bytes is c.args.i c.read.result within
    c.read.ensures.number
