use Rattle.sed_lexer.proofs.OrderLemmas.{are_pieces}
use Rattle.sed_lexer.proofs.laws.tokens_are_pieces.Goals as goal

pub returns : goal.returns
returns c = are_pieces
