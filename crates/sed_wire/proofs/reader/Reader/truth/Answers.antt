use Rattle.sed_wire.proofs.ReadingLemmas.{bad_bool}
use Rattle.sed_wire.proofs.reader.Reader.truth.Goals as goal

pub returns-then-truth-gt2 : goal.returns-then-truth-gt2
returns-then-truth-gt2 c = (bad_bool _ _ _ c.in_ok-truth.ensures.found c.if-truth-gt2.true, c.self.view_is)
