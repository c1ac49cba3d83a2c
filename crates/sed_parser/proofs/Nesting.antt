-- Statements within statements, and rows of them.
use Rattle.std.proofs.Common.{◌≡◌, ℕ, zero, suc, ◌-◌, ◌<◌, List, length, refl, arith}
use Rattle.sed_lexer.specs.Token.{Token}
use Rattle.sed_units.specs.Tree.{Tree}
use Rattle.sed_parser.specs.Reading.{Stuck, many_at}
use Rattle.sed_parser.specs.Rule.{Rule}
use Rattle.sed_parser.specs.Statements.{inner, statement_of, statements, next_statement, cases, case_of, next_case}

pub no_room : (tokens : List Token) → (inner 0).reads tokens ≡ Stuck tokens
unfolding inner
no_room tokens = refl

pub room : (n : ℕ) (tokens : List Token) → 0 < n
    → (inner n).reads tokens ≡ (statement_of (n - 1) (inner (n - 1))).reads tokens
unfolding inner
room zero tokens some = absurd (omega arith)
room (suc n) tokens some =
    let less : suc n - 1 ≡ n = omega arith in
    rw less refl

pub statements_are : (within : Rule Tree) (tokens : List Token)
    → (statements within).reads tokens ≡ many_at next_statement within.reads (length tokens) tokens
unfolding statements
statements_are within tokens = refl

pub cases_are : (n : ℕ) (within : Rule Tree) (tokens : List Token)
    → (cases n within).reads tokens ≡ many_at next_case (case_of n within).reads (length tokens) tokens
unfolding cases
cases_are n within tokens = refl
