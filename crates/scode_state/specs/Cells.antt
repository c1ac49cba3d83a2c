-- Cells that are no references to blocks, and the numbers that fields keep of them.
use Rattle.std.specs.Prelude.{ℕ, ◌≡◌, Option, Some, None, Result}
use Rattle.std.specs.Int.{cast_unsigned, w8, w16, w32, w64}
use Rattle.sed_value.specs.declared.slot_type.Primitive.{Primitive}
use Rattle.sed_value.specs.declared.slot_type.Primitive.TheVariants as prim
use Rattle.sed_value.specs.declared.value.Value.{Value}
use Rattle.sed_value.specs.declared.value.Value.TheVariants as kept
use Rattle.sed_value.specs.Wrap.{low_bits}
use Rattle.sed_typed.specs.Contents.{Contents, Path, value_at}
use Rattle.sed_engine.specs.Stops.{Stop, and_then, there}
use Rattle.sed_engine.specs.Values.{Val, Truth, Int, Long, Null, Literal, read_as}
use Rattle.scode_cells.specs.declared.cell.Cell.{Cell}
use Rattle.scode_cells.specs.declared.cell.Cell.TheVariants as cell

-- the value that a cell is which leads to no block
abbrev pub plain_of : Cell → Option Val
plain_of (cell.Int n) = Some (Int n)
plain_of (cell.Long n) = Some (Long n)
plain_of (cell.Bool t) = Some (Truth t)
plain_of cell.Null = Some Null
plain_of (cell.Text n) = Some (Literal n)
plain_of (cell.Object b offset class) = None
plain_of (cell.Str b offset size) = None

-- what is read at a path
abbrev pub read_at : Contents → Path → Result Val Stop
read_at m path = and_then (there (value_at m path)) read_as

-- the number that a field of this type keeps of a cell of the kind that it wants
abbrev pub number_for : Primitive → Cell → Option ℕ
number_for prim.Bool (cell.Bool t) = Some t
number_for prim.Byte (cell.Int n) = Some (low_bits w8 n)
number_for prim.Short (cell.Int n) = Some (low_bits w16 n)
number_for prim.Int (cell.Int n) = Some (cast_unsigned w32 n)
number_for prim.Long (cell.Long n) = Some (cast_unsigned w64 n)
number_for p c = None

-- the number that a primitive is kept as; of a Buf and of nothing there is none
abbrev pub value_number : Value → ℕ
value_number (kept.Bool t) = t
value_number (kept.Byte n) = n
value_number (kept.Short n) = n
value_number (kept.Int n) = cast_unsigned w32 n
value_number (kept.Long n) = cast_unsigned w64 n
value_number v = 0
