use Rattle.sed_lexer.proofs.OrderLemmas.{in_order}
use Rattle.sed_lexer.proofs.laws.tokens_are_in_order.Goals as goal

pub returns : goal.returns
returns c = in_order
