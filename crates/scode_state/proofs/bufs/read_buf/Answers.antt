use Rattle.std.proofs.Common.{◌≡◌, ◌∙◌, ◌≤◌, arith}
use Rattle.scode_mem.specs.Blocks.{bytes_of}
use Rattle.scode_state.proofs.Putting.{buf_few, buf_read, buf_slice, zeros_long}
use Rattle.scode_state.proofs.bufs.read_buf.Goals as goal

pub returns-clause-bytes : goal.returns-clause-bytes
returns-clause-bytes c =
    let o = bytes_of c.args.pool.now c.args.b in
    let count = c.buf_length-count.result in
    let few = (buf_few c.args.pool.now c.args.b c.args.at c.args.most count c.requires.there
    c.buf_length-count.ensures.bytes).0 in
    let most = c.requires.few in
    let is = c.from.ensures in
    buf_slice o c.new.result c.read_run.new.into c.args.at _ count c.new.ensures c.read_run.ensures
    (zeros_long 128 c.from.result (omega (arith, few, most, is)) ∙ is) c.buf_length-count.ensures.bytes

pub returns-clause-path : goal.returns-clause-path
returns-clause-path c = λ image class base path n at.
    let o = bytes_of c.args.pool.now c.args.b in
    let count = c.buf_length-count.result in
    let few = (buf_few c.args.pool.now c.args.b c.args.at c.args.most count c.requires.there
    c.buf_length-count.ensures.bytes).0 in
    let most = c.requires.few in
    let is = c.from.ensures in
    buf_read image class base path c.args.pool.now c.args.b c.args.at n at c.new.result
    (buf_slice o c.new.result c.read_run.new.into c.args.at _ count c.new.ensures c.read_run.ensures
    (zeros_long 128 c.from.result (omega (arith, few, most, is)) ∙ is) c.buf_length-count.ensures.bytes)
