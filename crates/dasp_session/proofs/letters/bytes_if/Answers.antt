use Rattle.std.proofs.Common.{◌≡◌, ℕ, length, ap, arith}
use Rattle.std.specs.Prelude.{Some}
use Rattle.dasp_session.proofs.letters.bytes_if.Goals as goal

some_eq : {A : Type 0} {a b : A} → Some a ≡ Some b → a ≡ b
some_eq e = cc

pub returns-then-said-clause-four : goal.returns-then-said-clause-four
returns-then-said-clause-four c = λ given is.
    let e : c.args.bytes ≡ given = some_eq is in omega (arith, ap (length {A = ℕ}) e)

pub returns-else-said-clause-four : goal.returns-else-said-clause-four
returns-else-said-clause-four c = λ given is. absurd (cc)
