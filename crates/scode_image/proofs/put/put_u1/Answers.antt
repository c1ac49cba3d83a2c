use Rattle.scode_image.proofs.Putting.{u1_puts}
use Rattle.scode_image.proofs.put.put_u1.Goals as goal

pub returns : goal.returns
returns c = u1_puts c.args.number _ _ c.in_ok-push.ensures.items
