use Rattle.std.proofs.Common.{arith}
use Rattle.scode_image.proofs.Putting.{no_u2}
use Rattle.scode_image.proofs.put.put_count.Goals as goal

pub returns-then-count-gt65535 : goal.returns-then-count-gt65535
returns-then-count-gt65535 c = no_u2 c.args.count _ _ (omega (arith, c.if-count-gt65535.true))
