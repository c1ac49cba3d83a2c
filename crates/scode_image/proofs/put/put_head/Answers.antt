use Rattle.scode_image.proofs.Putting.{head_puts}
use Rattle.scode_image.proofs.put.put_head.Goals as goal

pub returns : goal.returns
returns c = head_puts _ _ c.in_ok-extend_from_slice.ensures.items
