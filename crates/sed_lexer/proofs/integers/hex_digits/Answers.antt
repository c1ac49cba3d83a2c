use Rattle.std.proofs.Common.{sym, ◌||◌, ◌==◌}
use Rattle.sed_lexer.specs.Integers.{is_hex_digit}
use Rattle.sed_lexer.proofs.FrontLemmas.{run_found}
use Rattle.sed_lexer.proofs.integers.hex_digits.Goals as goal

pub returns-then-is_hex_digit : goal.returns-then-is_hex_digit
returns-then-is_hex_digit c =
    rw c.in_ok-first.ensures.cases.0
    (run_found is_hex_digit (λ b. is_hex_digit b || (b == 95)) c.in_ok-first.first.now c.in_ok-first.others.now c.more_hex_digits.result (sym c.if-is_hex_digit.ensures) c.more_hex_digits.ensures)
