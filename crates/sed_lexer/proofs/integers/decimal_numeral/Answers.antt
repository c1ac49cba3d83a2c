use Rattle.std.proofs.Common.{subst, List, ℕ}
use Rattle.sed_lexer.specs.Integers.{decimal_suffixes}
use Rattle.sed_lexer.specs.Fronts.{IsLongestFront}
use Rattle.sed_lexer.proofs.NumeralLemmas.{IsSuffix, decimal_found}
use Rattle.sed_lexer.proofs.integers.decimal_numeral.Goals as goal

pub returns : goal.returns
returns c =
    decimal_found c.args.text.now c.in_ok-len.len c.suffix.result c.in_ok-len.ensures
    (subst (λ (x : List ℕ). IsLongestFront (IsSuffix decimal_suffixes) x c.suffix.result) c.rest_of.ensures c.suffix.ensures)
