use Rattle.sed_faults.proofs.Together.{joined_least}
use Rattle.sed_faults.proofs.fault.joined.Goals as goal

pub returns-clause-least : goal.returns-clause-least
returns-clause-least c = joined_least c.args.a c.args.b c.lesser.result c.lesser.ensures
