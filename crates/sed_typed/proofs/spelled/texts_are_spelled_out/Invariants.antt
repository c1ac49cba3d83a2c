use Rattle.std.proofs.Common.{ℕ, ◌<◌, get_or}
use Rattle.std.specs.Prelude.{List}
use Rattle.sed_typed.specs.Typed.{IsText}
use Rattle.sed_typed.proofs.spelled.texts_are_spelled_out.Given as goal

abbrev pub invariant-loop-text : goal.invariant-loop-text
invariant-loop-text l = (k : ℕ) (d : List ℕ) → k < l.text-index → IsText (get_or l.texts k d)
