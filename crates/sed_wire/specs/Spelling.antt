-- Which bytes spell a value.
use Rattle.std.specs.Prelude.{◌≡◌, ◌≤◌, ℕ, Bool, true, false, nat_le, IsTrue, List, ◌++◌, length}
use Rattle.std.specs.Int.{w32, w64}
use Rattle.sed_value.specs.declared.slot_type.SlotType.{SlotType}
use Rattle.sed_value.specs.declared.slot_type.SlotType.TheVariants.{Prim as PrimSlot, Buf as BufSlot}
use Rattle.sed_value.specs.declared.value.Value.{Value}
use Rattle.sed_value.specs.declared.value.Value.TheVariants.{Bool as Truth, Byte, Short, Int, Long, Buf, Nothing}
use Rattle.sed_value.specs.Value.{is_of_type}
use Rattle.sed_wire.specs.Number.{SpellsNumber, SpellsSigned}

-- the contents of a buffer: their length in two bytes, and then they themselves
pub record SpellsContents (contents bytes : List ℕ) : Type 0 where
  pub count : List ℕ
  pub counts : SpellsNumber 2 (length contents) count
  pub front : bytes ≡ count ++ contents

-- truth values and bytes take one byte, shorts two, ints four and longs eight; a truth value above 2 is none
abbrev pub SpellsValue : Value → List ℕ → Type 0
SpellsValue (Truth truth) bytes = SpellsNumber 1 truth bytes × (truth ≤ 2)
SpellsValue (Byte number) bytes = SpellsNumber 1 number bytes
SpellsValue (Short number) bytes = SpellsNumber 2 number bytes
SpellsValue (Int number) bytes = SpellsSigned w32 number bytes
SpellsValue (Long number) bytes = SpellsSigned w64 number bytes
SpellsValue (Buf contents) bytes = SpellsContents contents bytes
SpellsValue Nothing bytes = ⊥

-- the bytes spell a value of the type
pub record Spells (slot : SlotType) (value : Value) (bytes : List ℕ) : Type 0 where
  pub of_type : IsTrue (is_of_type slot value)
  pub spelled : SpellsValue value bytes

-- a value that a writer takes
abbrev pub has_spelling : Value → Bool
has_spelling (Truth truth) = nat_le truth 2
has_spelling Nothing = false
has_spelling value = true

-- a type whose values can be held: a buffer of at most 128 bytes
abbrev pub can_be_held : SlotType → Bool
can_be_held (PrimSlot primitive) = true
can_be_held (BufSlot most) = nat_le most 128
