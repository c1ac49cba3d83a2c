use Rattle.scode_image.proofs.Putting.{end_puts}
use Rattle.scode_image.proofs.put.put_end.Goals as goal

pub returns : goal.returns
returns c = end_puts _ _ c.in_ok-push.ensures.items
