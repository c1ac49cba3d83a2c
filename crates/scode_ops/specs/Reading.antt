-- The operands of a form with which bytes begin: the code's own reading, for its private clauses. No public clause
-- rests on it.
use Rattle.std.specs.Prelude.{ℕ, nat_le, if◌then◌else◌, List, [], ◌∷◌, length, slice_index, Option, Some, None}
use Rattle.std.specs.Int.{from_be_bytes, cast_signed, w16, w32, w64}
use Rattle.scode_ops.specs.declared.operands.Form.{Form}
use Rattle.scode_ops.specs.declared.operands.Form.TheVariants as form
use Rattle.scode_ops.specs.declared.operands.Operands.{Operands}
use Rattle.scode_ops.specs.declared.operands.Operands.TheVariants.{Empty, U1, U2, U2U1, U2U2, I4, I8}
use Rattle.scode_ops.specs.Forms.{width_of}

abbrev pub short : ℕ → ℕ → ℕ
short high low = from_be_bytes w16 (high ∷ low ∷ [])

-- where there are enough
abbrev pub value_at : Form → List ℕ → Operands
value_at form.Empty bytes = Empty
value_at form.U1 bytes = U1 (slice_index bytes 0)
value_at form.U2 bytes = U2 (short (slice_index bytes 0) (slice_index bytes 1))
value_at form.U2U1 bytes = U2U1 (short (slice_index bytes 0) (slice_index bytes 1)) (slice_index bytes 2)
value_at form.U2U2 bytes =
    U2U2 (short (slice_index bytes 0) (slice_index bytes 1)) (short (slice_index bytes 2) (slice_index bytes 3))
value_at form.I4 bytes =
    I4 (cast_signed w32 (from_be_bytes w32
    (slice_index bytes 0 ∷ slice_index bytes 1 ∷ slice_index bytes 2 ∷ slice_index bytes 3 ∷ [])))
value_at form.I8 bytes =
    I8 (cast_signed w64 (from_be_bytes w64
    (slice_index bytes 0 ∷ slice_index bytes 1 ∷ slice_index bytes 2 ∷ slice_index bytes 3
    ∷ slice_index bytes 4 ∷ slice_index bytes 5 ∷ slice_index bytes 6 ∷ slice_index bytes 7 ∷ [])))

abbrev pub read : Form → List ℕ → Option Operands
read which bytes = if nat_le (width_of which) (length bytes) then Some (value_at which bytes) else None
