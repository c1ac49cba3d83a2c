-- A value of a type is of one form, and so bytes begin with one value of a type at most.
use Rattle.std.proofs.Common.{◌≡◌, ℕ, ◌<◌, ◌≤◌, ℤ, IsTrue, List, ◌++◌, length, FitsSigned, refl, sym, ◌∙◌, ap, arith, append_assoc}
use Rattle.std.proofs.lemmas.Bool.Decides.{nat_tests}
use Rattle.std.specs.Int.{w32, w64}
use Rattle.sed_value.specs.declared.slot_type.Primitive.TheVariants.{Bool as BoolType, Byte as ByteType, Short as ShortType, Int as IntType, Long as LongType}
use Rattle.sed_value.specs.declared.slot_type.SlotType.{SlotType}
use Rattle.sed_value.specs.declared.slot_type.SlotType.TheVariants.{Prim as PrimSlot, Buf as BufSlot}
use Rattle.sed_value.specs.declared.value.Value.{Value}
use Rattle.sed_value.specs.declared.value.Value.TheVariants.{Bool as Truth, Byte, Short, Int, Long, Buf, Nothing}
use Rattle.sed_value.specs.Value.{is_of_type}
use Rattle.sed_wire.specs.Reading.{HasOneSpelling, IsReadOneWay}
use Rattle.sed_wire.specs.Spelling.{Spells, SpellsContents, SpellsValue, can_be_held, has_spelling}
use Rattle.sed_wire.proofs.FrontLemmas.{same_front, one_number, read_number, one_signed, read_signed}
use Rattle.sed_wire.proofs.NumberLemmas.{written_spells, written_spells_signed}

-- the values of a type, form by form
pub data OfType : SlotType → Value → Type 0 where
  of_bool : (truth : ℕ) → truth ≤ 2 → OfType (PrimSlot BoolType) (Truth truth)
  of_byte : (number : ℕ) → number < 256 → OfType (PrimSlot ByteType) (Byte number)
  of_short : (number : ℕ) → number < 65536 → OfType (PrimSlot ShortType) (Short number)
  of_int : (number : ℤ) → FitsSigned w32 number → OfType (PrimSlot IntType) (Int number)
  of_long : (number : ℤ) → FitsSigned w64 number → OfType (PrimSlot LongType) (Long number)
  of_buf : (most : ℕ) (contents : List ℕ) → length contents ≤ most → OfType (BufSlot most) (Buf contents)

pub of_type : (slot : SlotType) (value : Value) → IsTrue (is_of_type slot value) → OfType slot value
of_type (PrimSlot BoolType) (Truth x) is = of_bool x (grind (arith, nat_tests))
of_type (PrimSlot BoolType) (Byte x) is = cc
of_type (PrimSlot BoolType) (Short x) is = cc
of_type (PrimSlot BoolType) (Int x) is = cc
of_type (PrimSlot BoolType) (Long x) is = cc
of_type (PrimSlot BoolType) (Buf x) is = cc
of_type (PrimSlot BoolType) Nothing is = cc
of_type (PrimSlot ByteType) (Truth x) is = cc
of_type (PrimSlot ByteType) (Byte x) is = of_byte x (grind (arith, nat_tests))
of_type (PrimSlot ByteType) (Short x) is = cc
of_type (PrimSlot ByteType) (Int x) is = cc
of_type (PrimSlot ByteType) (Long x) is = cc
of_type (PrimSlot ByteType) (Buf x) is = cc
of_type (PrimSlot ByteType) Nothing is = cc
of_type (PrimSlot ShortType) (Truth x) is = cc
of_type (PrimSlot ShortType) (Byte x) is = cc
of_type (PrimSlot ShortType) (Short x) is = of_short x (grind (arith, nat_tests))
of_type (PrimSlot ShortType) (Int x) is = cc
of_type (PrimSlot ShortType) (Long x) is = cc
of_type (PrimSlot ShortType) (Buf x) is = cc
of_type (PrimSlot ShortType) Nothing is = cc
of_type (PrimSlot IntType) (Truth x) is = cc
of_type (PrimSlot IntType) (Byte x) is = cc
of_type (PrimSlot IntType) (Short x) is = cc
of_type (PrimSlot IntType) (Int x) is = of_int x (record { sfits = grind (arith, nat_tests) })
of_type (PrimSlot IntType) (Long x) is = cc
of_type (PrimSlot IntType) (Buf x) is = cc
of_type (PrimSlot IntType) Nothing is = cc
of_type (PrimSlot LongType) (Truth x) is = cc
of_type (PrimSlot LongType) (Byte x) is = cc
of_type (PrimSlot LongType) (Short x) is = cc
of_type (PrimSlot LongType) (Int x) is = cc
of_type (PrimSlot LongType) (Long x) is = of_long x (record { sfits = grind (arith, nat_tests) })
of_type (PrimSlot LongType) (Buf x) is = cc
of_type (PrimSlot LongType) Nothing is = cc
of_type (BufSlot most) (Truth x) is = cc
of_type (BufSlot most) (Byte x) is = cc
of_type (BufSlot most) (Short x) is = cc
of_type (BufSlot most) (Int x) is = cc
of_type (BufSlot most) (Long x) is = cc
of_type (BufSlot most) (Buf x) is = of_buf most x (grind (arith, nat_tests))
of_type (BufSlot most) Nothing is = cc

pub one_contents : HasOneSpelling SpellsContents
one_contents contents a b of_a of_b =
    let same = one_number 2 (length contents) of_a.count of_b.count of_a.counts of_b.counts in
    of_a.front ∙ ap (λ (count : List ℕ). count ++ contents) same ∙ sym of_b.front

pub read_contents : IsReadOneWay SpellsContents
read_contents v w a b after others of_a of_b e =
    let whole_a : a ++ after ≡ of_a.count ++ (v ++ after) =
    ap (λ (bytes : List ℕ). bytes ++ after) of_a.front ∙ append_assoc of_a.count v after in
    let whole_b : b ++ others ≡ of_b.count ++ (w ++ others) =
    ap (λ (bytes : List ℕ). bytes ++ others) of_b.front ∙ append_assoc of_b.count w others in
    let counts = read_number 2 (length v) (length w) of_a.count of_b.count (v ++ after)
    (w ++ others) of_a.counts of_b.counts
    (sym whole_a ∙ e ∙ whole_b) in
    let parts = same_front v w after others counts.0 counts.2 in
    let contents = parts.0 in
    let count = counts.1 in
    let a_is = of_a.front in
    let b_is = of_b.front in
    (contents, cc, parts.1)

pub one_value : HasOneSpelling SpellsValue
one_value (Truth x) a b of_a of_b = one_number 1 x a b of_a.0 of_b.0
one_value (Byte x) a b of_a of_b = one_number 1 x a b of_a of_b
one_value (Short x) a b of_a of_b = one_number 2 x a b of_a of_b
one_value (Int x) a b of_a of_b = one_signed w32 x a b of_a of_b
one_value (Long x) a b of_a of_b = one_signed w64 x a b of_a of_b
one_value (Buf x) a b of_a of_b = one_contents x a b of_a of_b
one_value Nothing a b of_a of_b = absurd of_a

spelled_value : (slot : SlotType) (value : Value) → IsTrue (can_be_held slot) → OfType slot value
    → (bytes : List ℕ) × SpellsValue value bytes
spelled_value slot value held (of_bool x below) = (_, (written_spells 1 x (omega arith), below))
spelled_value slot value held (of_byte x below) = (_, written_spells 1 x (omega arith))
spelled_value slot value held (of_short x below) = (_, written_spells 2 x (omega arith))
spelled_value slot value held (of_int x fits) = (_, written_spells_signed w32 x fits)
spelled_value slot value held (of_long x fits) = (_, written_spells_signed w64 x fits)
spelled_value slot value held (of_buf most x within) =
    let short : most ≤ 128 = grind (arith, nat_tests) in
    (_, record { count = _; counts = written_spells 2 (length x) (omega arith); front = refl })

pub some_value : (slot : SlotType) (value : Value) → IsTrue (can_be_held slot) → IsTrue (is_of_type slot value)
    → (bytes : List ℕ) × Spells slot value bytes
some_value slot value held is =
    let spelled = spelled_value slot value held (of_type slot value is) in
    (spelled.0, record { of_type = is; spelled = spelled.1 })

-- two values of one type, form by form
read_of_type : (slot : SlotType) (v w : Value) (a b after others : List ℕ) → OfType slot v → OfType slot w
    → SpellsValue v a → SpellsValue w b → a ++ after ≡ b ++ others → (v ≡ w) × (a ≡ b) × (after ≡ others)
read_of_type slot v w a b after others (of_bool x p) (of_bool y q) of_a of_b e =
    let parts = read_number 1 x y a b after others of_a.0 of_b.0 e in (ap Truth parts.0, parts.1, parts.2)
read_of_type slot v w a b after others (of_byte x p) (of_byte y q) of_a of_b e =
    let parts = read_number 1 x y a b after others of_a of_b e in (ap Byte parts.0, parts.1, parts.2)
read_of_type slot v w a b after others (of_short x p) (of_short y q) of_a of_b e =
    let parts = read_number 2 x y a b after others of_a of_b e in (ap Short parts.0, parts.1, parts.2)
read_of_type slot v w a b after others (of_int x p) (of_int y q) of_a of_b e =
    let parts = read_signed w32 x y a b after others of_a of_b e in (ap Int parts.0, parts.1, parts.2)
read_of_type slot v w a b after others (of_long x p) (of_long y q) of_a of_b e =
    let parts = read_signed w64 x y a b after others of_a of_b e in (ap Long parts.0, parts.1, parts.2)
read_of_type slot v w a b after others (of_buf most x p) (of_buf limit y q) of_a of_b e =
    let parts = read_contents x y a b after others of_a of_b e in (ap Buf parts.0, parts.1, parts.2)

pub read_value : (slot : SlotType) → IsReadOneWay (Spells slot)
read_value slot v w a b after others of_a of_b e =
    read_of_type slot v w a b after others (of_type slot v of_a.of_type)
    (of_type slot w of_b.of_type) of_a.spelled of_b.spelled e

written_of_type : (slot : SlotType) (value : Value) → OfType slot value → IsTrue (has_spelling value)
written_of_type slot value (of_bool x below) = grind (arith, nat_tests)
written_of_type slot value (of_byte x below) = refl
written_of_type slot value (of_short x below) = refl
written_of_type slot value (of_int x fits) = refl
written_of_type slot value (of_long x fits) = refl
written_of_type slot value (of_buf most x within) = refl

pub written_value : (slot : SlotType) (value : Value) → IsTrue (is_of_type slot value) → IsTrue (has_spelling value)
written_value slot value is = written_of_type slot value (of_type slot value is)
