use Rattle.std.proofs.Common.{◌≡◌, ◌∙◌, ◌≤◌, arith}
use Rattle.scode_mem.specs.Blocks.{bytes_of}
use Rattle.scode_state.proofs.Putting.{slice_is, str_read, zeros_long}
use Rattle.scode_state.proofs.strs.read_str.Goals as goal

pub returns-clause-bytes : goal.returns-clause-bytes
returns-clause-bytes c =
    let few = c.ranges.size.fits in
    let is = c.from.ensures in
    slice_is (bytes_of c.args.pool.now c.args.b) c.new.result c.read_run.new.into c.args.at _ c.args.size c.new.ensures
    c.read_run.ensures (zeros_long 255 c.from.result (omega (arith, few, is)) ∙ is)

pub returns-clause-path : goal.returns-clause-path
returns-clause-path c = λ image class base path at.
    let few = c.ranges.size.fits in
    let is = c.from.ensures in
    str_read image class base path c.args.pool.now c.args.b c.args.at c.args.size at c.new.result
    (slice_is (bytes_of c.args.pool.now c.args.b) c.new.result c.read_run.new.into c.args.at _ c.args.size c.new.ensures
    c.read_run.ensures (zeros_long 255 c.from.result (omega (arith, few, is)) ∙ is))
