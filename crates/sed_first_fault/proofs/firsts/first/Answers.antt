use Rattle.sed_first_fault.proofs.Together.{first_together}
use Rattle.sed_first_fault.proofs.firsts.first.Goals as goal

pub returns : goal.returns
returns c = first_together c.args.a c.args.b c.lesser.result c.lesser.ensures
