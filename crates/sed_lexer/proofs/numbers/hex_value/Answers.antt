use Rattle.std.proofs.Common.{sym, ap, subst, ◌∙◌, ◌<◌, ◌^◌, ℕ, List, take, drop, codes}
use Rattle.sed_lexer.specs.Integers.{is_hex_digit}
use Rattle.sed_lexer.specs.Values.{digits_value, hex_number}
use Rattle.sed_lexer.specs.Fronts.{IsLongestFront}
use Rattle.sed_lexer.proofs.FrontLemmas.{starts_text}
use Rattle.sed_lexer.proofs.NumeralLemmas.{IsDigits}
use Rattle.sed_lexer.proofs.ValueLemmas.{hex_is_one, hex_too_large}
use Rattle.sed_lexer.proofs.numbers.hex_value.Goals as goal

pub returns-in-Some : goal.returns-in-Some
returns-in-Some c =
    hex_is_one c.args.bytes.now c.in_ok-len.len c.hex_number.result (starts_text c.args.bytes.now (codes "0x") (sym c.starts_with.ensures.value ∙ c.if-not-starts_with.false))
    (subst (λ (x : List ℕ). IsLongestFront (IsDigits is_hex_digit) x c.in_ok-len.len) c.rest_of-rest.ensures c.in_ok-len.ensures)
    (c.hex_number.ensures ∙ ap (λ (x : List ℕ). hex_number x c.in-Some.number) (c.rest_of.ensures ∙ ap (drop c.in_ok-len.len) c.rest_of-rest.ensures)
    ∙ ap (hex_number (drop c.in_ok-len.len (drop 2 c.args.bytes.now))) (c.in-Some.ensures.1 ∙ ap (digits_value 16) (c.front_of.ensures ∙ ap (take c.in_ok-len.len) c.rest_of-rest.ensures)))

pub returns-in-None : goal.returns-in-None
returns-in-None c =
    hex_too_large c.args.bytes.now c.in_ok-len.len (starts_text c.args.bytes.now (codes "0x") (sym c.starts_with.ensures.value ∙ c.if-not-starts_with.false))
    (subst (λ (x : List ℕ). IsLongestFront (IsDigits is_hex_digit) x c.in_ok-len.len) c.rest_of-rest.ensures c.in_ok-len.ensures)
    (subst (λ (x : List ℕ). digits_value 16 x < 2 ^ 64 → ⊥) (c.front_of.ensures ∙ ap (take c.in_ok-len.len) c.rest_of-rest.ensures) c.in-None.ensures)
