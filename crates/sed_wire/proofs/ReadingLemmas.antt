-- What comes of the reading of a value.
use Rattle.std.proofs.Common.{◌≡◌, ℕ, ◌+◌, ◌<◌, ◌≤◌, IsTrue, List, [], ◌∷◌, ◌++◌, length, take, drop, Result, Ok, Err, IsErrOf, MatchResult, ◌↔◌, refl, sym, subst, ◌∙◌, ap, arith, append_assoc, length-append}
use Rattle.std.proofs.Math.Seq.{take-append_seam, drop-append_seam}
use Rattle.sed_value.specs.declared.slot_type.Primitive.TheVariants.{Bool as BoolType, Byte as ByteType, Short as ShortType, Int as IntType, Long as LongType}
use Rattle.sed_value.specs.declared.slot_type.SlotType.{SlotType}
use Rattle.sed_value.specs.declared.slot_type.SlotType.TheVariants.{Prim as PrimSlot, Buf as BufSlot}
use Rattle.sed_value.specs.declared.value.Value.{Value}
use Rattle.sed_value.specs.declared.value.Value.TheVariants.{Buf}
use Rattle.sed_value.specs.Value.{is_of_type}
use Rattle.sed_wire.specs.declared.fault.ValueFault.{ValueFault}
use Rattle.sed_wire.specs.declared.fault.ValueFault.TheVariants.{Short, BadBool, TooLong}
use Rattle.sed_wire.specs.Faults.{BeginsNoValue, IsBadBool, IsTooLong, StandsAfter, contents_length, size_of}
use Rattle.sed_wire.specs.Number.{number_of, SpellsNumber}
use Rattle.sed_wire.specs.Reading.{Reads, ReadsAgain}
use Rattle.sed_wire.specs.Spelling.{Spells, SpellsContents, SpellsValue}
use Rattle.sed_wire.proofs.FrontLemmas.{read_again}
use Rattle.sed_wire.proofs.ValueLemmas.{OfType, of_bool, of_byte, of_short, of_int, of_long, of_buf, of_type, read_value}

-- one byte is its number
pub one_byte : (number : ℕ) (bytes : List ℕ) → SpellsNumber 1 number bytes → bytes ≡ number ∷ []
one_byte number [] spells = absurd (omega (arith, spells.as_many))
one_byte number (byte ∷ []) spells =
    let is : byte ≡ number = omega (arith, spells.is_number) in
    ap (λ (b : ℕ). b ∷ []) is
one_byte number (byte ∷ next ∷ behind) spells = absurd (omega (arith, spells.as_many))

-- the length that stands in front of contents
length-read : (count : ℕ) (old behind : List ℕ) → Reads (SpellsNumber 2) count old behind
    → (contents_length old ≡ count) × (length old ≡ 2 + length behind) × (drop 2 old ≡ behind)
length-read count old behind found =
    let two = found.spelled.as_many in
    let first : take 2 old ≡ found.spelling =
    ap (take 2) found.front ∙ ap (λ (n : ℕ). take n (found.spelling ++ behind)) (sym two)
    ∙ take-append_seam found.spelling behind in
    let rest : drop 2 old ≡ behind =
    ap (drop 2) found.front ∙ ap (λ (n : ℕ). drop n (found.spelling ++ behind)) (sym two)
    ∙ drop-append_seam found.spelling behind in (
      ap number_of first ∙ found.spelled.is_number,
      omega (arith, ap length found.front, length-append found.spelling behind, two),
      rest,
    )

pub bad_bool : (truth : ℕ) (old new : List ℕ) → Reads (SpellsNumber 1) truth old new → 2 < truth
    → IsBadBool (PrimSlot BoolType) old
bad_bool truth old new found above =
    let is : old ≡ truth ∷ new = found.front ∙ ap (λ (bytes : List ℕ). bytes ++ new)
    (one_byte truth found.spelling found.spelled) in
    subst (IsBadBool (PrimSlot BoolType)) (sym is) above

pub contents-short : (count : ℕ) (old behind : List ℕ) → Reads (SpellsNumber 2) count old behind → length behind < count
    → length old < 2 + contents_length old
contents-short count old behind found fewer =
    let counted = length-read count old behind found in
    omega (arith, counted.0, counted.1)

pub contents-too_long : (most count : ℕ) (old behind contents new : List ℕ) → Reads (SpellsNumber 2) count old behind
    → length contents ≡ count → behind ≡ contents ++ new → most < length contents
    → IsTooLong (BufSlot most) old × (new ≡ drop (2 + contents_length old) old)
contents-too_long most count old behind contents new found as_many parted above =
    let counted = length-read count old behind found in
    let long = ap length parted in
    let whole = length-append contents new in
    let fits : 2 + contents_length old ≤ length old = omega (arith, counted.0, counted.1) in
    let more : most < contents_length old = omega (arith, counted.0) in
    let all : 2 + contents_length old ≡ length (found.spelling ++ contents) =
    omega (arith, counted.0, found.spelled.as_many, length-append found.spelling contents) in
    let front : old ≡ (found.spelling ++ contents) ++ new =
    found.front ∙ ap (λ (b : List ℕ). found.spelling ++ b) parted ∙ sym (append_assoc found.spelling contents new) in
    let rest : drop (2 + contents_length old) old ≡ new =
    ap (λ (n : ℕ). drop n old) all ∙ ap (drop (length (found.spelling ++ contents))) front
    ∙ drop-append_seam (found.spelling ++ contents) new in
    ((fits, more), sym rest)

pub contents-read : (most count : ℕ) (old behind contents new : List ℕ) → Reads (SpellsNumber 2) count old behind
    → length contents ≡ count → behind ≡ contents ++ new → IsTrue (is_of_type (BufSlot most) (Buf contents))
    → Reads (Spells (BufSlot most)) (Buf contents) old new
contents-read most count old behind contents new found as_many parted of_type = record {
  spelling = found.spelling ++ contents;
  spelled = record {
    of_type = of_type;
    spelled = record {
      count = found.spelling;
      counts = subst (λ (n : ℕ). SpellsNumber 2 n found.spelling) (sym as_many) found.spelled;
      front = refl;
    };
  };
  front = found.front ∙ ap (λ (b : List ℕ). found.spelling ++ b) parted
      ∙ sym (append_assoc found.spelling contents new);
}

-- what is known of a buffer's bytes from its contents
contents-counted : (contents bytes old new : List ℕ) → SpellsContents contents bytes → old ≡ bytes ++ new
    → (contents_length old ≡ length contents) × (length bytes ≡ 2 + length contents)
contents-counted contents bytes old new spells front =
    let parted : old ≡ spells.count ++ (contents ++ new) =
    front ∙ ap (λ (b : List ℕ). b ++ new) spells.front ∙ append_assoc spells.count contents new in
    let counted = length-read (length contents) old (contents ++ new)
    (record { spelling = spells.count; spelled = spells.counts; front = parted }) in
    (counted.0, omega (arith, ap length spells.front, length-append spells.count contents, spells.counts.as_many))

value-size : (slot : SlotType) (value : Value) (bytes old new : List ℕ) → OfType slot value → SpellsValue value bytes
    → old ≡ bytes ++ new → size_of slot old ≡ length bytes
value-size slot value bytes old new (of_bool x p) spells front = sym spells.0.as_many
value-size slot value bytes old new (of_byte x p) spells front = sym spells.as_many
value-size slot value bytes old new (of_short x p) spells front = sym spells.as_many
value-size slot value bytes old new (of_int x p) spells front = sym spells.complement.as_many
value-size slot value bytes old new (of_long x p) spells front = sym spells.complement.as_many
value-size slot value bytes old new (of_buf most x p) spells front =
    let counted = contents-counted x bytes old new spells front in
    omega (arith, counted.0, counted.1)

value-good_bool : (slot : SlotType) (value : Value) (bytes old new : List ℕ) → OfType slot value
    → SpellsValue value bytes
    → old ≡ bytes ++ new → IsBadBool slot old → ⊥
value-good_bool slot value bytes old new (of_bool x p) spells front bad =
    let is : old ≡ x ∷ new = front ∙ ap (λ (b : List ℕ). b ++ new) (one_byte x bytes spells.0) in
    let above : 2 < x = subst (IsBadBool (PrimSlot BoolType)) is bad in
    omega (arith, above, p)
value-good_bool slot value bytes old new (of_byte x p) spells front bad = bad
value-good_bool slot value bytes old new (of_short x p) spells front bad = bad
value-good_bool slot value bytes old new (of_int x p) spells front bad = bad
value-good_bool slot value bytes old new (of_long x p) spells front bad = bad
value-good_bool slot value bytes old new (of_buf most x p) spells front bad = bad

value-held : (slot : SlotType) (value : Value) (bytes old new : List ℕ) → OfType slot value → SpellsValue value bytes
    → old ≡ bytes ++ new → IsTooLong slot old → ⊥
value-held slot value bytes old new (of_bool x p) spells front long = long
value-held slot value bytes old new (of_byte x p) spells front long = long
value-held slot value bytes old new (of_short x p) spells front long = long
value-held slot value bytes old new (of_int x p) spells front long = long
value-held slot value bytes old new (of_long x p) spells front long = long
value-held slot value bytes old new (of_buf most x p) spells front long =
    let counted = contents-counted x bytes old new spells front in
    omega (arith, counted.0, long.1, p)

-- where a value stands there is no cause to refuse one
value-clash : (fault : ValueFault) (slot : SlotType) (value : Value) (old new : List ℕ)
    → Reads (Spells slot) value old new
    → BeginsNoValue fault slot old → ⊥
value-clash Short slot value old new found short =
    let form = of_type slot value found.spelled.of_type in
    omega (
      arith,
      short,
      value-size slot value found.spelling old new form found.spelled.spelled found.front,
      ap length found.front,
      length-append found.spelling new,
    )
value-clash BadBool slot value old new found bad =
    value-good_bool slot value found.spelling old new
    (of_type slot value found.spelled.of_type) found.spelled.spelled found.front bad
value-clash TooLong slot value old new found long =
    value-held slot value found.spelling old new
    (of_type slot value found.spelled.of_type) found.spelled.spelled found.front long

bad_bool-short : (slot : SlotType) (left : List ℕ) → IsBadBool slot left → length left < size_of slot left → ⊥
bad_bool-short (PrimSlot BoolType) [] bad short = bad
bad_bool-short (PrimSlot BoolType) (truth ∷ behind) bad short = omega (arith, short)
bad_bool-short (PrimSlot ByteType) left bad short = bad
bad_bool-short (PrimSlot ShortType) left bad short = bad
bad_bool-short (PrimSlot IntType) left bad short = bad
bad_bool-short (PrimSlot LongType) left bad short = bad
bad_bool-short (BufSlot most) left bad short = bad

too_long-short : (slot : SlotType) (left : List ℕ) → IsTooLong slot left → length left < size_of slot left → ⊥
too_long-short (PrimSlot primitive) left long short = long
too_long-short (BufSlot most) left long short = omega (arith, long.0, short)

bad_bool-too_long : (slot : SlotType) (left : List ℕ) → IsBadBool slot left → IsTooLong slot left → ⊥
bad_bool-too_long (PrimSlot primitive) left bad long = long
bad_bool-too_long (BufSlot most) left bad long = bad

one_fault : (f g : ValueFault) (slot : SlotType) (left : List ℕ) → BeginsNoValue f slot left
    → BeginsNoValue g slot left → f ≡ g
one_fault Short Short slot left of_f of_g = refl
one_fault BadBool BadBool slot left of_f of_g = refl
one_fault TooLong TooLong slot left of_f of_g = refl
one_fault Short BadBool slot left of_f of_g = absurd (bad_bool-short slot left of_g of_f)
one_fault BadBool Short slot left of_f of_g = absurd (bad_bool-short slot left of_f of_g)
one_fault Short TooLong slot left of_f of_g = absurd (too_long-short slot left of_g of_f)
one_fault TooLong Short slot left of_f of_g = absurd (too_long-short slot left of_f of_g)
one_fault BadBool TooLong slot left of_f of_g = absurd (bad_bool-too_long slot left of_f of_g)
one_fault TooLong BadBool slot left of_f of_g = absurd (bad_bool-too_long slot left of_g of_f)

abbrev pub ValueOutcome : SlotType → Result Value ValueFault → List ℕ → List ℕ → Type 0
ValueOutcome slot result old new =
    MatchResult result (λ value. Reads (Spells slot) value old new)
    (λ fault. BeginsNoValue fault slot old × StandsAfter fault slot old new)

pub value-fault : (fault : ValueFault) (slot : SlotType) (result : Result Value ValueFault) (old new : List ℕ)
    → ValueOutcome slot result old new → IsErrOf result fault ↔ BeginsNoValue fault slot old
value-fault fault slot (Ok value) old new found =
    ((λ is. absurd cc), (λ begins. absurd (value-clash fault slot value old new found begins)))
value-fault fault slot (Err other) old new refused = (
  (λ is. let same : other ≡ fault = cc in let P : ValueFault
      → Type 0 = λ f. BeginsNoValue f slot old in subst P same refused.0),
  (λ begins. ap Err (one_fault other fault slot old refused.0 begins)),
)

pub value-again : (slot : SlotType) (result : Result Value ValueFault) (old new : List ℕ)
    → ValueOutcome slot result old new → ReadsAgain (Spells slot) result old new
value-again slot (Ok value) old new found = read_again (Spells slot) value old new (read_value slot) found
value-again slot (Err fault) old new refused = λ written spelling follows spelled front.
    absurd (value-clash fault slot written old follows
    (record { spelling = spelling; spelled = spelled; front = front }) refused.0)
