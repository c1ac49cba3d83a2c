use Rattle.sed_lexer.proofs.CutLemmas.{one_fault}
use Rattle.sed_lexer.proofs.laws.fault_is_one.Goals as goal

pub returns : goal.returns
returns c = one_fault
