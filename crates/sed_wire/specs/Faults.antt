-- When the bytes that are left begin with no value, and with no text.
use Rattle.std.specs.Prelude.{◌≡◌, ℕ, ◌+◌, ◌<◌, ◌≤◌, nat_lt, IsTrue, List, ◌∷◌, ◌++◌, length, take, drop}
use Rattle.std.specs.List.{list_all, list_any}
use Rattle.sed_value.specs.declared.slot_type.Primitive.TheVariants.{Bool as BoolType}
use Rattle.sed_value.specs.declared.slot_type.SlotType.{SlotType}
use Rattle.sed_value.specs.declared.slot_type.SlotType.TheVariants.{Prim as PrimSlot, Buf as BufSlot}
use Rattle.sed_value.specs.SlotType.{width_of}
use Rattle.sed_wire.specs.declared.fault.StrFault.{StrFault}
use Rattle.sed_wire.specs.declared.fault.StrFault.TheVariants.{NoEnd, NotAscii}
use Rattle.sed_wire.specs.declared.fault.ValueFault.{ValueFault}
use Rattle.sed_wire.specs.declared.fault.ValueFault.TheVariants.{Short, BadBool, TooLong}
use Rattle.sed_wire.specs.Number.{number_of}

-- how long the contents of a buffer are, by the two bytes in front of them
abbrev pub contents_length : List ℕ → ℕ
contents_length left = number_of (take 2 left)

-- how many bytes the value takes that begins there, so that fewer are too few
abbrev pub size_of : SlotType → List ℕ → ℕ
size_of (PrimSlot primitive) left = width_of primitive
size_of (BufSlot most) left = 2 + contents_length left

-- a truth value's byte that is above 2
abbrev pub IsBadBool : SlotType → List ℕ → Type 0
IsBadBool (PrimSlot BoolType) (truth ∷ behind) = 2 < truth
IsBadBool slot left = ⊥

-- a buffer's contents that are all there, and more than the type holds
abbrev pub IsTooLong : SlotType → List ℕ → Type 0
IsTooLong (BufSlot most) left = (2 + contents_length left ≤ length left) × (most < contents_length left)
IsTooLong slot left = ⊥

-- where a reader stands after a refusal: behind contents that are too long, and else where it stood
abbrev pub StandsAfter : ValueFault → SlotType → List ℕ → List ℕ → Type 0
StandsAfter Short slot old new = new ≡ old
StandsAfter BadBool slot old new = new ≡ old
StandsAfter TooLong slot old new = new ≡ drop (size_of slot old) old

-- no 0 is left
abbrev pub HasNoEnd : List ℕ → Type 0
HasNoEnd left = IsTrue (list_all (nat_lt 0) left)

-- a byte above 127 stands before the first 0
pub record IsNotAscii (left : List ℕ) : Type 0 where
  pub before : List ℕ
  pub behind : List ℕ
  pub parted : left ≡ before ++ 0 ∷ behind
  pub first : IsTrue (list_all (nat_lt 0) before)
  pub above : IsTrue (list_any (nat_lt 127) before)

-- why a text isn't read
abbrev pub BeginsNoText : StrFault → List ℕ → Type 0
BeginsNoText NoEnd left = HasNoEnd left
BeginsNoText NotAscii left = IsNotAscii left

-- why a value isn't read
abbrev pub BeginsNoValue : ValueFault → SlotType → List ℕ → Type 0
BeginsNoValue Short slot left = length left < size_of slot left
BeginsNoValue BadBool slot left = IsBadBool slot left
BeginsNoValue TooLong slot left = IsTooLong slot left
