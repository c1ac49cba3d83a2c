use Rattle.std.proofs.Common.{ℕ, ◌<◌, get_or}
use Rattle.sed_typed.specs.declared.program.Method.{Method}
use Rattle.scode_entries.specs.Cases.{EachCaseOf, Has32Bits}
use Rattle.scode_compile.proofs.right.all_cases_have_32_bits.Given as goal

abbrev pub invariant-loop-method : goal.invariant-loop-method
invariant-loop-method l = (k : ℕ) (d : Method) → k < l.method-index → EachCaseOf Has32Bits (get_or l.methods k d).body
