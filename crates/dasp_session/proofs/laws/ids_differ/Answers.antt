use Rattle.std.proofs.Common.{ℕ, ◌+◌, ◌*◌, ◌%◌, ap, arith}
use Rattle.dasp_session.proofs.laws.ids_differ.Goals as goal

pub returns-clause-place : goal.returns-clause-place
returns-clause-place c = λ made other place beside low low_too is. omega (arith, is)

pub returns-clause-number : goal.returns-clause-number
returns-clause-number c = λ made other place beside low low_too near near_too is. omega (arith, is)

pub returns-clause-modulo : goal.returns-clause-modulo
returns-clause-modulo c = λ made other place beside low low_too is. omega (arith, is)

pub returns-clause-again : goal.returns-clause-again
returns-clause-again c = λ made other place same. ap (λ (n : ℕ). n * 16 + place) same

pub returns-clause-never : goal.returns-clause-never
returns-clause-never c = λ made place low. omega arith
