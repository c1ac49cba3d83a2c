-- The value of a slot as a form of bytes, and the values of several.
use Rattle.std.specs.Prelude.{◌≡◌, ℕ, zero, suc, ◌+◌, ◌<◌, ◌≤◌, ◌^◌, ◌&&◌, nat_le, nat_lt, Bool, true, false, cond}
use Rattle.std.specs.Prelude.{IsTrue, List, [], ◌∷◌, ◌++◌, length, take, drop, refl}
use Rattle.std.specs.Int.{w32, w64}
use Rattle.std.proofs.Common.{ap, subst, sym, ◌∙◌, arith, take-append-drop, length-take-le, le-leb, leb-true}
use Rattle.std.proofs.Common.{length-drop}
use Rattle.std.proofs.lemmas.Bool.{and_from, and_parts}
use Rattle.std.proofs.lemmas.List.{take_at, drop_at, length-append}
use Rattle.std.proofs.lemmas.Int.{of_z-to_z}
use Rattle.std.proofs.Math.Facts.{Fits-of_lt, sfits_to_z}
use Rattle.sed_value.specs.Value.{are_bytes, is_of_type}
use Rattle.sed_value.specs.declared.slot_type.Primitive.TheVariants.{Bool as BoolType, Byte as ByteType}
use Rattle.sed_value.specs.declared.slot_type.Primitive.TheVariants.{Short as ShortType, Int as IntType}
use Rattle.sed_value.specs.declared.slot_type.Primitive.TheVariants.{Long as LongType}
use Rattle.sed_value.specs.declared.slot_type.SlotType.{SlotType}
use Rattle.sed_value.specs.declared.slot_type.SlotType.TheVariants.{Prim as PrimSlot, Buf as BufSlot}
use Rattle.sed_value.specs.declared.value.Value.{Value}
use Rattle.sed_value.specs.declared.value.Value.TheVariants.{Bool as Truth, Byte, Short, Int, Long, Buf, Nothing}
use Rattle.sed_wire.specs.Faults.{size_of}
use Rattle.sed_wire.specs.Number.{number_of}
use Rattle.sed_wire.specs.Spelling.{Spells, SpellsValue}
use Rattle.sed_wire.proofs.FrontLemmas.{number_of-below}
use Rattle.sed_wire.proofs.ValueLemmas.{one_value}
use Rattle.node_table.specs.Values.{value_of}
use Rattle.node_table.proofs.ReadLemmas.{found}
use Rattle.sed_wire.specs.Form.{Form, begins_again, field, found_eq, given, not_found, not_stuck, stuck_eq, then}
use Rattle.sed_wire.specs.FormReading.{Found, Stuck, ReadsAs}
use Rattle.sed_wire.specs.Row.{listed}
use Rattle.sed_wire.specs.FormSpelling.{Begins}

-- ---- a value

-- the bytes of the value that begins there
abbrev pub value_front : SlotType → List ℕ → List ℕ
value_front t bytes = take (size_of t bytes) bytes

abbrev pub is_value : SlotType → List ℕ → Bool
is_value t front = are_bytes front && is_of_type t (value_of t front)

abbrev pub value_reads : SlotType → ReadsAs Value
value_reads t bytes =
    cond (nat_le (size_of t bytes) (length bytes) && is_value t (value_front t bytes))
    (Found (value_of t (value_front t bytes)) (drop (size_of t bytes) bytes)) (Stuck bytes)

take_two : (k : ℕ) (bytes : List ℕ) → take 2 (take (suc (suc k)) bytes) ≡ take 2 bytes
take_two k [] = refl
take_two k (a ∷ []) = refl
take_two k (a ∷ b ∷ bytes) = refl

all_taken : (n : ℕ) (bytes : List ℕ) → IsTrue (are_bytes bytes) → IsTrue (are_bytes (take n bytes))
all_taken zero bytes are = refl
all_taken (suc n) [] are = refl
all_taken (suc n) (byte ∷ bytes) are =
    let parts = and_parts (nat_lt byte 256) (are_bytes bytes) are in
    and_from (nat_lt byte 256) (are_bytes (take n bytes)) parts.0 (all_taken n bytes parts.1)

-- a front of the size that it tells is spelled by its value
spells_of : (t : SlotType) (front : List ℕ) → length front ≡ size_of t front
    → IsTrue (are_bytes front) → IsTrue (is_of_type t (value_of t front))
    → SpellsValue (value_of t front) front
spells_of (PrimSlot BoolType) front long are typed =
    (record { as_many = long; are_bytes = are; is_number = refl }, leb-true (number_of front) 2 typed)
spells_of (PrimSlot ByteType) front long are typed = record { as_many = long; are_bytes = are; is_number = refl }
spells_of (PrimSlot ShortType) front long are typed = record { as_many = long; are_bytes = are; is_number = refl }
spells_of (PrimSlot IntType) front long are typed =
    let below = number_of-below front are in
    let fits : number_of front < 2 ^ 32 = omega (arith, ap (λ (k : ℕ). 256 ^ k) long, below) in
    record {
      fits = sfits_to_z (Fits-of_lt fits);
      complement = record { as_many = long; are_bytes = are; is_number = sym (of_z-to_z w32 (number_of front) fits) };
    }
spells_of (PrimSlot LongType) front long are typed =
    let below = number_of-below front are in
    let fits : number_of front < 2 ^ 64 = omega (arith, ap (λ (k : ℕ). 256 ^ k) long, below) in
    record {
      fits = sfits_to_z (Fits-of_lt fits);
      complement = record { as_many = long; are_bytes = are; is_number = sym (of_z-to_z w64 (number_of front) fits) };
    }
spells_of (BufSlot most) front long are typed =
    let enough : 2 ≤ length front = omega (arith, long) in
    let two = length-take-le 2 front enough in
    let others = length-drop 2 front in
    let count : number_of (take 2 front) ≡ length (drop 2 front) = omega (arith, long, others) in
    record {
      count = take 2 front;
      counts = record { as_many = two; are_bytes = all_taken 2 front are; is_number = count };
      front = sym (take-append-drop 2 front);
    }

-- what begins with a size has it still where it is cut behind it
size_again : (t : SlotType) (bytes : List ℕ) → size_of t (value_front t bytes) ≡ size_of t bytes
size_again (PrimSlot p) bytes = refl
size_again (BufSlot most) bytes =
    let count = number_of (take 2 bytes) in
    let more : 2 + count ≡ suc (suc count) = omega arith in
    ap (λ (two : List ℕ). 2 + number_of two) (ap (λ (n : ℕ). take 2 (take n bytes)) more ∙ take_two count bytes)

pub value_sound : (t : SlotType) (bytes : List ℕ) (v : Value) (rest : List ℕ)
    → value_reads t bytes ≡ Found v rest → Begins (Spells t v) bytes rest
value_sound t bytes v rest e =
    by_test (nat_le (size_of t bytes) (length bytes) && is_value t (value_front t bytes)) refl e
  where
    by_test : (b : Bool) → (nat_le (size_of t bytes) (length bytes) && is_value t (value_front t bytes)) ≡ b
        → cond b (Found (value_of t (value_front t bytes)) (drop (size_of t bytes) bytes)) (Stuck bytes) ≡ Found v rest
        → Begins (Spells t v) bytes rest
    by_test false is e = absurd (not_found bytes rest v e)
    by_test true is e =
        let parts = and_parts (nat_le (size_of t bytes) (length bytes)) (is_value t (value_front t bytes)) is in
        let value = and_parts (are_bytes (value_front t bytes))
        (is_of_type t (value_of t (value_front t bytes))) parts.1 in
        let long = length-take-le (size_of t bytes) bytes (leb-true (size_of t bytes) (length bytes) parts.0) in
        let g = found_eq (value_of t (value_front t bytes)) (drop (size_of t bytes) bytes) v rest e in
        begins_again (Spells t) bytes (value_of t (value_front t bytes)) v (drop (size_of t bytes) bytes) rest g.0 g.1 (
          value_front t bytes,
          record {
            of_type = value.1;
            spelled = spells_of t (value_front t bytes) (long ∙ sym (size_again t bytes)) value.0 value.1;
          },
          sym (take-append-drop (size_of t bytes) bytes),
        )

-- the bytes that spell a value are bytes
all_both : (a b : List ℕ) → IsTrue (are_bytes a) → IsTrue (are_bytes b) → IsTrue (are_bytes (a ++ b))
all_both [] b first second = second
all_both (byte ∷ a) b first second =
    let parts = and_parts (nat_lt byte 256) (are_bytes a) first in
    and_from (nat_lt byte 256) (are_bytes (a ++ b)) parts.0 (all_both a b parts.1 second)

spelled_bytes : (t : SlotType) (v : Value) (front : List ℕ) → IsTrue (is_of_type t v)
    → SpellsValue v front → IsTrue (are_bytes front)
spelled_bytes t (Truth n) front typed is = is.0.are_bytes
spelled_bytes t (Byte n) front typed is = is.are_bytes
spelled_bytes t (Short n) front typed is = is.are_bytes
spelled_bytes t (Int z) front typed is = is.complement.are_bytes
spelled_bytes t (Long z) front typed is = is.complement.are_bytes
spelled_bytes (PrimSlot BoolType) (Buf c) front typed is = absurd (let no : false ≡ true = typed in cc)
spelled_bytes (PrimSlot ByteType) (Buf c) front typed is = absurd (let no : false ≡ true = typed in cc)
spelled_bytes (PrimSlot ShortType) (Buf c) front typed is = absurd (let no : false ≡ true = typed in cc)
spelled_bytes (PrimSlot IntType) (Buf c) front typed is = absurd (let no : false ≡ true = typed in cc)
spelled_bytes (PrimSlot LongType) (Buf c) front typed is = absurd (let no : false ≡ true = typed in cc)
spelled_bytes (BufSlot most) (Buf c) front typed is =
    let parts = and_parts (are_bytes c) (nat_le (length c) most) typed in
    subst (λ (s : List ℕ). IsTrue (are_bytes s)) (sym is.front) (all_both is.count c is.counts.are_bytes parts.0)
spelled_bytes t Nothing front typed is = absurd is

pub value_whole : (t : SlotType) (v : Value) (front rest : List ℕ)
    → Spells t v front → value_reads t (front ++ rest) ≡ Found v rest
value_whole t v front rest is =
    let f = found t v front is in
    let size : size_of t (front ++ rest) ≡ length front = f.size rest in
    let taken : take (length front) (front ++ rest) ≡ front = take_at front rest (length front) refl in
    let left : drop (length front) (front ++ rest) ≡ rest = drop_at front rest (length front) refl in
    let enough : nat_le (length front) (length (front ++ rest)) ≡ true =
    le-leb (length front) (length (front ++ rest)) (omega (arith, length-append front rest)) in
    let are : are_bytes front ≡ true = spelled_bytes t v front is.of_type is.spelled in
    let typed : is_of_type t (value_of t front) ≡ true = ap (is_of_type t) f.value ∙ is.of_type in
    rw (size, enough, taken, left, are, typed) (ap (λ (w : Value). Found w rest) f.value)

pub value_stays : (t : SlotType) (bytes rest : List ℕ) → value_reads t bytes ≡ Stuck rest → bytes ≡ rest
value_stays t bytes rest e = by_test (nat_le (size_of t bytes) (length bytes) && is_value t (value_front t bytes)) e
  where
    by_test : (b : Bool) → cond b (Found (value_of t (value_front t bytes)) (drop (size_of t bytes) bytes))
        (Stuck bytes) ≡ Stuck rest → bytes ≡ rest
    by_test true e = absurd (not_stuck (drop (size_of t bytes) bytes) rest (value_of t (value_front t bytes)) e)
    by_test false e = stuck_eq {A = Value} bytes rest e

-- a value of the type
unfoldable pub value : SlotType → Form Value
value t = field (Spells t) (value_reads t) (λ v a b one other. one_value v a b one.spelled other.spelled)
    (value_sound t) (value_whole t) (value_stays t)

-- ---- values of types, one behind another

unfoldable pub values : List SlotType → Form (List Value)
values [] = given []
values (t ∷ types) = listed (then (value t) (λ _. values types))
