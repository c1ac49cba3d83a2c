use Rattle.std.proofs.Common.{ℕ, ◌<◌, get_or}
use Rattle.sed_typed.specs.Spelled.{IsSpelledMethod}
use Rattle.sed_typed.specs.declared.program.Method.{Method}
use Rattle.sed_typed.proofs.spelled.methods_are_spelled_out.Given as goal

abbrev pub invariant-loop-method : goal.invariant-loop-method
invariant-loop-method l = (k : ℕ) (d : Method) → k < l.method-index → IsSpelledMethod (get_or l.methods k d)
