use Rattle.std.proofs.Common.{arith}
use Rattle.scode_image.proofs.Putting.{no_u1}
use Rattle.scode_image.proofs.put.put_small_count.Goals as goal

pub returns-then-count-gt255 : goal.returns-then-count-gt255
returns-then-count-gt255 c = no_u1 c.args.count _ _ (omega (arith, c.if-count-gt255.true))
