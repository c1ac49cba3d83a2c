use Rattle.std.proofs.Common.{ap, subst, ◌∙◌, ◌<◌, ◌^◌, ℕ, List, drop}
use Rattle.sed_lexer.specs.Values.{digits_value, decimal_number}
use Rattle.sed_lexer.proofs.ValueLemmas.{decimal_is_one, decimal_too_large}
use Rattle.sed_lexer.proofs.numbers.decimal_value.Goals as goal

pub returns-in-Some : goal.returns-in-Some
returns-in-Some c =
    decimal_is_one c.args.bytes.now c.in_ok-len.len c.decimal_number.result c.in_ok-len.ensures
    (c.decimal_number.ensures ∙ ap (λ (x : List ℕ). decimal_number x c.in-Some.number) c.rest_of.ensures
    ∙ ap (decimal_number (drop c.in_ok-len.len c.args.bytes.now)) (c.in-Some.ensures.1 ∙ ap (digits_value 10) c.front_of.ensures))

pub returns-in-None : goal.returns-in-None
returns-in-None c =
    decimal_too_large c.args.bytes.now c.in_ok-len.len c.in_ok-len.ensures
    (subst (λ (x : List ℕ). digits_value 10 x < 2 ^ 64 → ⊥) c.front_of.ensures c.in-None.ensures)
