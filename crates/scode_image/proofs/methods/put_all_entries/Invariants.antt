use Rattle.std.proofs.Common.{ℕ, ◌+◌}
use Rattle.scode_image.specs.Grammar.{entry}
use Rattle.scode_image.proofs.Putting.{RowPut}
use Rattle.scode_image.proofs.methods.put_all_entries.Given as goal

-- so many were put, and the others are still to be put
abbrev pub invariant-loop-entry : goal.invariant-loop-entry
invariant-loop-entry l =
    (locals count : ℕ) → RowPut (entry locals) (λ least e. e.place + 1) count 0 l.entries l.initial.into.items l.into.items l.entry-index
