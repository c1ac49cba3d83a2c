use Rattle.std.proofs.Common.{sym, ◌||◌, ◌==◌}
use Rattle.sed_value.specs.Characters.{is_digit}
use Rattle.sed_lexer.proofs.FrontLemmas.{run_found}
use Rattle.sed_lexer.proofs.integers.digits.Goals as goal

pub returns-then-is_digit : goal.returns-then-is_digit
returns-then-is_digit c =
    rw c.in_ok-first.ensures.cases.0
    (run_found is_digit (λ b. is_digit b || (b == 95)) c.in_ok-first.first.now c.in_ok-first.others.now c.more_digits.result (sym c.if-is_digit.ensures) c.more_digits.ensures)
