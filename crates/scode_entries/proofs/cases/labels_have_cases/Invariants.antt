use Rattle.std.proofs.Common.{ℕ, ◌<◌, get_or}
use Rattle.sed_typed.specs.declared.statement.Label.{Label}
use Rattle.scode_entries.specs.Cases.{HasLabel, Has32Bits}
use Rattle.scode_entries.proofs.cases.labels_have_cases.Given as goal

abbrev pub invariant-loop-label : goal.invariant-loop-label
invariant-loop-label l = (k : ℕ) (d : Label) → k < l.label-index → HasLabel Has32Bits (get_or l.labels k d)
