use Rattle.scode_state.proofs.Putting.{buf_long}
use Rattle.scode_state.proofs.bufs.buf_length.Goals as goal

pub returns-clause-path : goal.returns-clause-path
returns-clause-path c = λ image class base path n bytes at is.
    buf_long image class base path c.args.pool.now c.args.b c.args.at n at bytes is c.read.result c.read.ensures.number
