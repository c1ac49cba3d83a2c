-- What is said of each case label of a body's `switch`es.
use Rattle.std.specs.Prelude.{ℤ, All, IsTrue, Option, Some, None}
use Rattle.std.specs.Int.{w32}
use Rattle.sed_value.specs.Value.{is_signed}
use Rattle.sed_typed.specs.declared.statement.Label.{Label}
use Rattle.sed_typed.specs.declared.statement.Label.TheVariants.{Case, Default}
use Rattle.sed_typed.specs.declared.statement.Stmt.{Stmt, Row_of-Stmt, end_of-Stmt, more_of-Stmt}
use Rattle.sed_typed.specs.declared.statement.Stmt.TheVariants as stmt

abbrev pub HasLabel : (ℤ → Type 0) → Label → Type 0
HasLabel Q (Case n) = Q n
HasLabel Q Default = Unit {0}

abbrev mutual
  pub EachCase : (ℤ → Type 0) → Stmt → Type 0
  EachCase Q (stmt.Block' shape all) = EachCases Q all
  EachCase Q (stmt.If' t p a q b) = EachCase Q a × EachCase Q b
  EachCase Q (stmt.While' t p body) = EachCase Q body
  EachCase Q (stmt.DoWhile' p body t) = EachCase Q body
  EachCase Q (stmt.For' p first t last q body) = EachCase Q first × EachCase Q body
  EachCase Q (stmt.Switch' e labels shape all) = All (HasLabel Q) labels.items × EachCases Q all
  EachCase Q s = Unit {0}

  pub EachCases : {n : _} → (ℤ → Type 0) → Row_of-Stmt n → Type 0
  EachCases Q end_of-Stmt = Unit {0}
  EachCases Q (more_of-Stmt s ss) = EachCase Q s × EachCases Q ss

abbrev pub EachCaseOf : (ℤ → Type 0) → Option Stmt → Type 0
EachCaseOf Q None = Unit {0}
EachCaseOf Q (Some body) = EachCase Q body

abbrev pub Has32Bits : ℤ → Type 0
Has32Bits n = IsTrue (is_signed w32 n)
