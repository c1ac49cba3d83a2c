-- Which values are of a type, and what a slot keeps of one.
use Rattle.std.specs.Prelude.{ℕ, ◌^◌, ℤ, pos, Bool, false, ◌||◌, ◌&&◌, nat_le, nat_lt, List, length}
use Rattle.std.specs.List.{list_all}
use Rattle.std.specs.Int.{Width, w8, w16, w32, w64}
use Rattle.std.specs.Int.Signed.{mag}
use mir.Val.{hbits}
use Rattle.sed_value.specs.declared.slot_type.Primitive.TheVariants.{Bool as BoolType, Byte as ByteType}
use Rattle.sed_value.specs.declared.slot_type.Primitive.TheVariants.{Short as ShortType, Int as IntType}
use Rattle.sed_value.specs.declared.slot_type.Primitive.TheVariants.{Long as LongType}
use Rattle.sed_value.specs.declared.slot_type.SlotType.{SlotType}
use Rattle.sed_value.specs.declared.slot_type.SlotType.TheVariants.{Prim as PrimSlot, Buf as BufSlot}
use Rattle.sed_value.specs.declared.value.Value.{Value}
use Rattle.sed_value.specs.declared.value.Value.TheVariants.{Bool as Truth, Byte, Short, Int, Long, Buf}
use Rattle.sed_value.specs.Wrap.{low_bits}

-- a whole number of the signed range of a width
abbrev pub is_signed : Width → ℤ → Bool
is_signed width number = nat_lt (mag number) (2 ^ hbits width)

-- numbers below 256
abbrev pub are_bytes : List ℕ → Bool
are_bytes numbers = list_all (λ n. nat_lt n 256) numbers

-- a truth value of 0, 1 or 2; a whole number within its type; bytes, no more than the type holds
abbrev pub is_of_type : SlotType → Value → Bool
is_of_type (PrimSlot BoolType) (Truth truth) = nat_le truth 2
is_of_type (PrimSlot ByteType) (Byte number) = nat_lt number (2 ^ 8)
is_of_type (PrimSlot ShortType) (Short number) = nat_lt number (2 ^ 16)
is_of_type (PrimSlot IntType) (Int number) = is_signed w32 number
is_of_type (PrimSlot LongType) (Long number) = is_signed w64 number
is_of_type (BufSlot most) (Buf bytes) = are_bytes bytes && nat_le (length bytes) most
is_of_type slot value = false

-- a byte or short is read as an int
abbrev pub widened : Value → Value
widened (Byte number) = Int (pos number)
widened (Short number) = Int (pos number)
widened value = value

-- of a number that is stored in it, a byte keeps the low 8 bits and a short the low 16; a long holds each int
abbrev pub kept : SlotType → Value → Value
kept (PrimSlot ByteType) (Int number) = Byte (low_bits w8 number)
kept (PrimSlot ShortType) (Int number) = Short (low_bits w16 number)
kept (PrimSlot LongType) (Int number) = Long number
kept slot value = value

-- what a slot of the type keeps of a value
abbrev pub stored : SlotType → Value → Value
stored slot value = kept slot (widened value)

-- a value that an expression reads as an int
abbrev pub reads_as_int : Value → Bool
reads_as_int value =
    is_of_type (PrimSlot ByteType) value
    || is_of_type (PrimSlot ShortType) value
    || is_of_type (PrimSlot IntType) value

-- a value that may be stored in a slot of the type
abbrev pub goes_to : SlotType → Value → Bool
goes_to (PrimSlot ByteType) value = reads_as_int value
goes_to (PrimSlot ShortType) value = reads_as_int value
goes_to (PrimSlot IntType) value = reads_as_int value
goes_to (PrimSlot LongType) value = reads_as_int value || is_of_type (PrimSlot LongType) value
goes_to slot value = is_of_type slot value
