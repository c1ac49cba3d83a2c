use Rattle.std.proofs.Common.{rules}
use Rattle.std.specs.Int.{w32}
use Rattle.sed_wire.proofs.FrontLemmas.{signed_again}
use Rattle.sed_wire.proofs.reader.Reader.i4.Goals as goal

pub returns-clause-again : goal.returns-clause-again
returns-clause-again c = signed_again w32 _ _ _ (search rules)
