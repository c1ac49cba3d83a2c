use Rattle.std.proofs.Common.{arith}
use Rattle.scode_fields.proofs.Lowering.{str_lowers}
use Rattle.scode_fields.proofs.bytes.lower_str.Goals as goal

pub returns : goal.returns
returns c = str_lowers c.args.row.now.items c.lower.new.row.items c.args.n c.args.offset (omega arith) c.lower.ensures
