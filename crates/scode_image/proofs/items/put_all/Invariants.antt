use Rattle.std.proofs.Common.{ℕ}
use Rattle.scode_image.proofs.Putting.{RowPut}
use Rattle.scode_image.proofs.items.put_all.Given as goal

-- so many were put, and the others are still to be put
abbrev pub invariant-loop-item : goal.invariant-loop-item
invariant-loop-item g l =
    (count : ℕ) → RowPut (λ (s : Unit {0}). g.T.Item.form) (λ s a. s) count tt l.items l.initial.into.items l.into.items l.item-index
