use Rattle.scode_image.proofs.Putting.{version_puts}
use Rattle.scode_image.proofs.put.put_version.Goals as goal

pub returns : goal.returns
returns c = version_puts _ _ c.in_ok-push.ensures.items
