use Rattle.std.proofs.Common.{rules}
use Rattle.std.specs.Int.{w64}
use Rattle.sed_wire.proofs.FrontLemmas.{signed_again}
use Rattle.sed_wire.proofs.reader.Reader.i8.Goals as goal

pub returns-clause-again : goal.returns-clause-again
returns-clause-again c = signed_again w64 _ _ _ (search rules)
