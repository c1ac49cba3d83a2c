use Rattle.std.proofs.Common.{ℕ, ◌<◌, get_or}
use Rattle.sed_typed.specs.Spelled.{IsSpelledClass}
use Rattle.sed_typed.specs.declared.schema.ClassInfo.{ClassInfo}
use Rattle.sed_typed.proofs.spelled.classes_are_spelled_out.Given as goal

abbrev pub invariant-loop-class : goal.invariant-loop-class
invariant-loop-class l = (k : ℕ) (d : ClassInfo) → k < l.class-index → IsSpelledClass (get_or l.classes k d)
