-- What cells keep.
use Rattle.std.specs.Prelude.{◌<◌, Bool, true, false, length, replicate}
use Rattle.sed_value.specs.declared.value.Value.{Value}
use Rattle.sed_value.specs.declared.value.Value.TheVariants as kept
use Rattle.sed_typed.specs.declared.program.FieldForm.{FieldForm}
use Rattle.sed_typed.specs.declared.program.FieldForm.TheVariants.{Prim, Str, Buf, Array, Object}
use Rattle.sed_cells.specs.declared.cell.Cell.{Cell}
use Rattle.sed_cells.specs.declared.cell.Cell.TheVariants as cell

-- the value that a cell keeps
abbrev pub cell_value : Cell → Value
cell_value cell.Nothing = kept.Nothing
cell_value (cell.Bool t) = kept.Bool t
cell_value (cell.Byte n) = kept.Byte n
cell_value (cell.Short n) = kept.Short n
cell_value (cell.Int n) = kept.Int n
cell_value (cell.Long n) = kept.Long n
cell_value (cell.Bytes b) = kept.Buf b.value

-- the value with which the cell of a field begins; that of an array or an object keeps none
abbrev pub start_of : FieldForm → Value → Value
start_of (Prim p) v = v
start_of (Str n) v = kept.Buf (replicate n 0)
start_of (Buf n) v = v
start_of (Array p n) v = kept.Nothing
start_of (Object t) v = kept.Nothing

-- the bytes of a Str or a Buf
abbrev pub are_bytes : Value → Bool
are_bytes (kept.Buf b) = true
are_bytes v = false

-- more bytes than a buffer holds
abbrev pub IsLong : Value → Type 0
IsLong (kept.Buf b) = 128 < length b
IsLong v = ⊥
