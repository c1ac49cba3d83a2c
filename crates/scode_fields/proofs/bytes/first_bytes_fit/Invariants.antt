use Rattle.scode_fields.proofs.Fits.{FitTo}
use Rattle.scode_fields.proofs.bytes.first_bytes_fit.Given as goal

-- each class so far has its row, and first bytes that fit
abbrev pub invariant-loop-class : goal.invariant-loop-class
invariant-loop-class l = FitTo l.image l.order l.rows.items l.places.items l.class-index
