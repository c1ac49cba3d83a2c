use Rattle.std.proofs.Common.{ℕ, ◌<◌, get_or}
use Rattle.sed_typed.specs.Spelled.{IsSpelledField}
use Rattle.sed_typed.specs.declared.program.Field.{Field}
use Rattle.sed_typed.proofs.spelled.fields_are_spelled_out.Given as goal

abbrev pub invariant-loop-field : goal.invariant-loop-field
invariant-loop-field l = (k : ℕ) (d : Field) → k < l.field-index → IsSpelledField (get_or l.fields k d)
