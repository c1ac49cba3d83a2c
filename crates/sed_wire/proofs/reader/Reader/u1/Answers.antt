use Rattle.std.proofs.Common.{rules}
use Rattle.sed_wire.proofs.FrontLemmas.{number_again}
use Rattle.sed_wire.proofs.reader.Reader.u1.Goals as goal

pub returns-clause-again : goal.returns-clause-again
returns-clause-again c = number_again 1 _ _ _ (search rules)
