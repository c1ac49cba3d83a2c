use Rattle.sed_wire.proofs.WritingLemmas.{number-put}
use Rattle.sed_wire.proofs.writer.Writer.put_u1.Goals as goal

pub returns-clause-bytes : goal.returns-clause-bytes
returns-clause-bytes c = number-put 1 c.args.v _ _ c.ranges.v.fits c.in-Ok.ensures.done
