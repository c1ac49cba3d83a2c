use Rattle.sed_lexer.proofs.NumeralLemmas.{hex_is_longest}
use Rattle.sed_lexer.proofs.integers.integer.Goals as goal

pub returns-in-Some : goal.returns-in-Some
returns-in-Some c = hex_is_longest c.args.text.now c.in-Some.len c.in-Some.ensures
