use Rattle.std.proofs.Common.{ℕ, ◌<◌, get_or}
use Rattle.sed_typed.specs.declared.statement.Stmt.{Stmt}
use Rattle.scode_entries.specs.Cases.{EachCase, Has32Bits}
use Rattle.scode_entries.proofs.cases.+cases.Given as goal

abbrev pub invariant-all_have_cases-loop-s : goal.invariant-all_have_cases-loop-s
invariant-all_have_cases-loop-s l = (k : ℕ) (d : Stmt) → k < l.s-index → EachCase Has32Bits (get_or l.all k d)
