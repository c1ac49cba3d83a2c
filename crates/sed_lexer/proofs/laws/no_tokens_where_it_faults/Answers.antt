use Rattle.sed_lexer.proofs.CutLemmas.{no_fault}
use Rattle.sed_lexer.proofs.laws.no_tokens_where_it_faults.Goals as goal

pub returns : goal.returns
returns c = no_fault
