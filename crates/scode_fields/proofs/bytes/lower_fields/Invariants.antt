use Rattle.std.proofs.Common.{ℕ, ◌≤◌, length, take}
use Rattle.scode_fields.specs.Rows as meaning
use Rattle.scode_fields.proofs.bytes.lower_fields.Given as goal

-- the row tells of the first fields
abbrev pub invariant-loop-field : goal.invariant-loop-field
invariant-loop-field l = (depth : ℕ) → length l.rows ≤ depth
    → meaning.Lowers l.initial.row.items l.row.items (meaning.fields_test depth l.image (take l.field-index l.fields))
