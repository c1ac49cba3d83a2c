use Rattle.sedona_cli.proofs.Puts.{puts}
use Rattle.sedona_cli.proofs.putting.put_line.Goals as goal

pub returns : goal.returns
returns g c = puts _ _ _ _ _ c.put.result c.put.ensures.ok c.put.ensures.err c.put.ensures.cause
