use Rattle.std.proofs.Common.{sym, ap, ◌∙◌, codes, drop, subst, List, ℕ}
use Rattle.sed_lexer.specs.Integers.{is_hex_digit, hex_suffixes}
use Rattle.sed_lexer.specs.Fronts.{IsLongestFront}
use Rattle.sed_lexer.proofs.FrontLemmas.{starts_text}
use Rattle.sed_lexer.proofs.NumeralLemmas.{IsDigits, IsSuffix, hex_found}
use Rattle.sed_lexer.proofs.integers.hex_numeral.Goals as goal

pub returns : goal.returns
returns c =
    hex_found c.args.text.now c.in_ok-len.len c.suffix.result (starts_text c.args.text.now (codes "0x") (sym c.starts_with.ensures.value ∙ c.if-not-starts_with.false))
    (subst (λ (x : List ℕ). IsLongestFront (IsDigits is_hex_digit) x c.in_ok-len.len) c.rest_of-rest.ensures c.in_ok-len.ensures)
    (subst (λ (x : List ℕ). IsLongestFront (IsSuffix hex_suffixes) x c.suffix.result) (c.rest_of.ensures ∙ ap (drop c.in_ok-len.len) c.rest_of-rest.ensures) c.suffix.ensures)
