-- Values as bytes, one behind another.
use Rattle.std.specs.Prelude.{ℕ, Bool, IsTrue, true, false, nat_lt, if◌then◌else◌, List, [], ◌∷◌, ◌++◌, length, take}
use Rattle.std.specs.Prelude.{drop, Option, Some, None}
use Rattle.std.specs.Option.{option_map, option_map_or}
use Rattle.std.specs.List.{flat_map, list_any, zip}
use Rattle.std.specs.Int.{w32, w64, bytes_high_first, cast_signed, cast_unsigned}
use Rattle.sed_value.specs.Value.{is_of_type}
use Rattle.sed_value.specs.declared.slot_type.Primitive.TheVariants.{Bool as BoolType, Byte as ByteType}
use Rattle.sed_value.specs.declared.slot_type.Primitive.TheVariants.{Short as ShortType, Int as IntType}
use Rattle.sed_value.specs.declared.slot_type.Primitive.TheVariants.{Long as LongType}
use Rattle.sed_value.specs.declared.slot_type.SlotType.{SlotType}
use Rattle.sed_value.specs.declared.slot_type.SlotType.TheVariants.{Prim as PrimSlot, Buf as BufSlot}
use Rattle.sed_value.specs.declared.value.Value.{Value}
use Rattle.sed_value.specs.declared.value.Value.TheVariants.{Bool as Truth, Byte, Short, Int, Long, Buf, Nothing}
use Rattle.sed_wire.specs.Faults.{size_of}
use Rattle.sed_wire.specs.Number.{number_of}

-- ---- written

-- the bytes that spell a value, the highest byte of a number first; a Buf has its length before its bytes
abbrev pub spelling_of : Value → List ℕ
spelling_of (Truth truth) = bytes_high_first 1 truth
spelling_of (Byte number) = bytes_high_first 1 number
spelling_of (Short number) = bytes_high_first 2 number
spelling_of (Int number) = bytes_high_first 4 (cast_unsigned w32 number)
spelling_of (Long number) = bytes_high_first 8 (cast_unsigned w64 number)
spelling_of (Buf contents) = bytes_high_first 2 (length contents) ++ contents
spelling_of Nothing = []

abbrev pub spelling_of_all : List Value → List ℕ
spelling_of_all values = flat_map spelling_of values

-- ---- read

-- the value that these bytes are, all of them; a truth value above 2 and a Buf that is longer than its type says are
-- still told
abbrev pub value_of : SlotType → List ℕ → Value
value_of (PrimSlot BoolType) bytes = Truth (number_of bytes)
value_of (PrimSlot ByteType) bytes = Byte (number_of bytes)
value_of (PrimSlot ShortType) bytes = Short (number_of bytes)
value_of (PrimSlot IntType) bytes = Int (cast_signed w32 (number_of bytes))
value_of (PrimSlot LongType) bytes = Long (cast_signed w64 (number_of bytes))
value_of (BufSlot most) bytes = Buf (drop 2 bytes)

-- the values of these types, one behind another, that the bytes are; none where they are too few or too many
abbrev pub values_of : List SlotType → List ℕ → Option (List Value)
values_of [] [] = Some []
values_of [] (byte ∷ bytes) = None
values_of (t ∷ types) bytes =
    if nat_lt (length bytes) (size_of t bytes) then None
    else option_map (λ values. value_of t (take (size_of t bytes) bytes) ∷ values)
    (values_of types (drop (size_of t bytes) bytes))

-- the values, none of them where they are not there
abbrev pub taken : List SlotType → List ℕ → List Value
taken types bytes = option_map_or (λ values. values) (values_of types bytes) []

-- a truth value's byte above 2
abbrev pub is_bad_truth : Value → Bool
is_bad_truth (Truth truth) = nat_lt 2 truth
is_bad_truth value = false

-- a Buf that is longer than its type says
abbrev pub is_too_long : SlotType → Value → Bool
is_too_long (BufSlot most) (Buf contents) = nat_lt most (length contents)
is_too_long t value = false

-- the bytes are not exactly values of these types, the lengths of Bufs aside, or have a truth value's byte above 2
abbrev pub are_bad_values : List SlotType → List ℕ → Bool
are_bad_values types bytes = option_map_or (λ values. list_any is_bad_truth values) (values_of types bytes) true

-- one of the values is a Buf that is longer than its type says
abbrev pub have_long_buffer : List SlotType → List ℕ → Bool
have_long_buffer types bytes = list_any (λ e. is_too_long e.0 e.1) (zip types (taken types bytes))

-- ---- of types

-- a value of each type, in their order
abbrev pub AreOfTypes : List SlotType → List Value → Type 0
AreOfTypes [] [] = Unit {0}
AreOfTypes [] (v ∷ values) = ⊥
AreOfTypes (t ∷ types) [] = ⊥
AreOfTypes (t ∷ types) (v ∷ values) = IsTrue (is_of_type t v) × AreOfTypes types values
