use Rattle.std.proofs.Common.{arith}
use Rattle.scode_fields.proofs.Lowering.{buf_lowers}
use Rattle.scode_fields.proofs.bytes.lower_buf.Goals as goal

pub returns : goal.returns
returns c =
    buf_lowers c.args.row.now.items c.lower.new.row.items c.lower-2.new.row.items c.args.n c.args.offset (omega
    (arith, c.ranges.n))
    (omega arith) c.lower.ensures c.lower-2.ensures
