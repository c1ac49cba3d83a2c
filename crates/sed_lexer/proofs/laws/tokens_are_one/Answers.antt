use Rattle.sed_lexer.proofs.CutLemmas.{one_tokens}
use Rattle.sed_lexer.proofs.laws.tokens_are_one.Goals as goal

pub returns : goal.returns
returns c = one_tokens
