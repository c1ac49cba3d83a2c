-- The widths of primitive types, and which types go together.
use Rattle.std.specs.Prelude.{ℕ, Bool, true, false, ◌==◌, ◌&&◌}
use Rattle.sed_value.specs.declared.slot_type.Primitive.{Primitive}
use Rattle.sed_value.specs.declared.slot_type.Primitive.TheVariants.{Bool as BoolType, Byte, Short, Int, Long}
use Rattle.sed_value.specs.declared.slot_type.SlotType.{SlotType}
use Rattle.sed_value.specs.declared.slot_type.SlotType.TheVariants.{Prim, Buf}

-- how many bytes of data a field of the type takes
abbrev pub width_of : Primitive → ℕ
width_of BoolType = 1
width_of Byte = 1
width_of Short = 2
width_of Int = 4
width_of Long = 8

-- ---- the ends of a link

-- a value of the type is read as an int
abbrev pub is_read_as_int : Primitive → Bool
is_read_as_int Byte = true
is_read_as_int Short = true
is_read_as_int Int = true
is_read_as_int BoolType = false
is_read_as_int Long = false

abbrev pub primitive_goes_with : Primitive → Primitive → Bool
primitive_goes_with BoolType BoolType = true
primitive_goes_with Long Long = true
primitive_goes_with from to = is_read_as_int from && is_read_as_int to

-- equal types, or both among byte, short and int; Bufs of one size
abbrev pub goes_with : SlotType → SlotType → Bool
goes_with (Prim from) (Prim to) = primitive_goes_with from to
goes_with (Buf most) (Buf other) = most == other
goes_with from to = false
