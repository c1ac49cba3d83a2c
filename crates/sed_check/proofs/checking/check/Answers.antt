use Rattle.sed_check.proofs.AsRead.{are_spelled}
use Rattle.sed_check.proofs.checking.check.Goals as goal

pub elaborate-requires-clause-spelled : goal.elaborate-requires-clause-spelled
elaborate-requires-clause-spelled c = are_spelled c.args.units.now c.requires.read
