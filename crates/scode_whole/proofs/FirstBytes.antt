-- What bytes give that are taken from others: their numbers, and their last.
use Rattle.std.proofs.Common.{◌≡◌, ℕ, zero, suc, ◌+◌, ◌-◌, ◌*◌, ◌^◌, ◌<◌, ◌≤◌, ◌==◌, ◌&&◌, ◌||◌, not, nat_le, nat_lt, if◌then◌else◌, Bool, true, false, List, [], ◌∷◌, length, take, drop, min, refl, sym, ap, subst, ◌∙◌, arith}
use Rattle.std.specs.Prelude.{slice_index}
use Rattle.std.specs.Int.{Width, w32, w64, cast_signed}
use Rattle.std.proofs.Math.Facts.{sfits_to_z}
use Rattle.std.proofs.Math.Nat.{pow-le-pow_right}
use Rattle.std.proofs.lemmas.Bool.{and_from, and_parts, le-leb, leb-true, lt-ltb}
use Rattle.std.proofs.lemmas.List.{length-drop, length-take, length-take-le}
use mir.Val.{Fits, bits}
use Rattle.sed_value.specs.declared.slot_type.Primitive.{Primitive}
use Rattle.sed_value.specs.declared.slot_type.Primitive.TheVariants as prim
use Rattle.sed_value.specs.declared.slot_type.SlotType.TheVariants as slot
use Rattle.sed_value.specs.declared.value.Value.TheVariants as kept
use Rattle.sed_value.specs.Value.{are_bytes, is_of_type, is_signed}
use Rattle.sed_wire.specs.Number.{number_of}
use Rattle.sed_wire.proofs.FrontLemmas.{number_of-below}
use Rattle.sed_typed.specs.declared.program.FieldForm.TheVariants as form
use Rattle.sed_engine.specs.Fits.{keeps}
use Rattle.sed_engine.specs.Values.{last_byte}
use Rattle.sed_engine.proofs.Ranges.{signed_of}
use Rattle.scode_code.specs.Contents.{buf_at, bytes_at, primitive_at}
use Rattle.scode_code.specs.TableRules as rule
use Rattle.scode_code.specs.Tables.{primitive_of}
use Rattle.scode_whole.proofs.Truths.{no_truth}

-- ---- bytes of bytes

pub bytes_behind : (n : ℕ) (bytes : List ℕ) → are_bytes bytes ≡ true → are_bytes (drop n bytes) ≡ true
bytes_behind zero bytes h = h
bytes_behind (suc n) [] h = refl
bytes_behind (suc n) (b ∷ bs) h = bytes_behind n bs (and_parts (nat_lt b 256) (are_bytes bs) h).1

bytes_before : (n : ℕ) (bytes : List ℕ) → are_bytes bytes ≡ true → are_bytes (take n bytes) ≡ true
bytes_before zero bytes h = refl
bytes_before (suc n) [] h = refl
bytes_before (suc n) (b ∷ bs) h =
    let p = and_parts (nat_lt b 256) (are_bytes bs) h in
    and_from (nat_lt b 256) (are_bytes (take n bs)) p.0 (bytes_before n bs p.1)

pub bytes_within : (bytes : List ℕ) (offset width : ℕ) → are_bytes bytes ≡ true
    → are_bytes (bytes_at bytes offset width) ≡ true
bytes_within bytes offset width h = bytes_before width (drop offset bytes) (bytes_behind offset bytes h)

most_within : (bytes : List ℕ) (offset width : ℕ) → length (bytes_at bytes offset width) ≤ width
most_within bytes offset width =
    let long : length (take width (drop offset bytes)) ≡ min width (length (drop offset bytes)) =
    length-take width (drop offset bytes) in
    omega (arith, long)

all_within : (bytes : List ℕ) (offset width : ℕ) → offset + width ≤ length bytes
    → length (bytes_at bytes offset width) ≡ width
all_within bytes offset width h =
    let behind : length (drop offset bytes) ≡ length bytes - offset = length-drop offset bytes in
    length-take-le width (drop offset bytes) (omega (arith, h, behind))

number_within : (bytes : List ℕ) (offset width : ℕ) → are_bytes bytes ≡ true
    → number_of (bytes_at bytes offset width) < 256 ^ width
number_within bytes offset width h =
    let low : number_of (bytes_at bytes offset width) < 256 ^ length (bytes_at bytes offset width) =
    number_of-below (bytes_at bytes offset width) (bytes_within bytes offset width h) in
    let some : 0 < 256 = omega arith in
    let most : 256 ^ length (bytes_at bytes offset width) ≤ 256 ^ width =
    pow-le-pow_right some (most_within bytes offset width) in
    omega (arith, low, most)

-- ---- primitives

signed_within : (w : Width) (n : ℕ) → n < 2 ^ bits w → is_signed w (cast_signed w n) ≡ true
signed_within w n h = let fits : Fits w n = record { fits = h } in signed_of w (cast_signed w n) (sfits_to_z fits)

prim_kept : (p : Primitive) (bytes : List ℕ) (offset : ℕ) → are_bytes bytes ≡ true
    → (p ≡ prim.Bool → nat_le (number_of (bytes_at bytes offset 1)) 2 ≡ true)
    → is_of_type (slot.Prim p) (primitive_at p bytes offset) ≡ true
prim_kept prim.Bool bytes offset h truth = truth refl
prim_kept prim.Byte bytes offset h truth =
    lt-ltb (number_of (bytes_at bytes offset 1)) (2 ^ 8) (number_within bytes offset 1 h)
prim_kept prim.Short bytes offset h truth =
    lt-ltb (number_of (bytes_at bytes offset 2)) (2 ^ 16) (number_within bytes offset 2 h)
prim_kept prim.Int bytes offset h truth = signed_within w32 (number_of (bytes_at bytes offset 4))
    (number_within bytes offset 4 h)
prim_kept prim.Long bytes offset h truth = signed_within w64 (number_of (bytes_at bytes offset 8))
    (number_within bytes offset 8 h)

-- only the form 1 is that of a bool
bool_is : (number : ℕ) → primitive_of number ≡ prim.Bool → (number == 1) ≡ true
bool_is number e = by_test (number == 1) (number == 2) (number == 3) (number == 4) e
  where
    by_test : (a b c d : Bool)
        → (if a then prim.Bool else if b then prim.Byte else if c then prim.Short else if d then prim.Int else
        prim.Long)
        ≡ prim.Bool
        → a ≡ true
    by_test true b c d e = refl
    by_test false true c d e = absurd (let never : ⊥ = cc in never)
    by_test false false true d e = absurd (let never : ⊥ = cc in never)
    by_test false false false true e = absurd (let never : ⊥ = cc in never)
    by_test false false false false e = absurd (let never : ⊥ = cc in never)

second : (a b : Bool) → a ≡ true → (not a || b) ≡ true → b ≡ true
second true b e h = h
second false b e h = no_truth e

pub primitive_kept : (number : ℕ) (bytes : List ℕ) (offset : ℕ) → are_bytes bytes ≡ true
    → rule.primitive_fits number bytes offset ≡ true
    → keeps (form.Prim (primitive_of number)) (primitive_at (primitive_of number) bytes offset) ≡ true
primitive_kept number bytes offset h fits =
    prim_kept (primitive_of number) bytes offset h
    (λ e. second (number == 1) (nat_le (number_of (bytes_at bytes offset 1)) 2) (bool_is number e) fits)

-- ---- a Buf

pub buf_kept : (n : ℕ) (bytes : List ℕ) (offset : ℕ) → are_bytes bytes ≡ true → rule.buf_fits n bytes offset ≡ true
    → keeps (form.Buf n) (buf_at bytes offset) ≡ true
buf_kept n bytes offset h fits =
    let count : ℕ = number_of (bytes_at bytes offset 2) in
    let most : number_of (bytes_at bytes offset 2) ≤ n = leb-true (number_of (bytes_at bytes offset 2)) n fits in
    let long : length (bytes_at bytes (offset + 2) (number_of (bytes_at bytes offset 2))) ≤ number_of
    (bytes_at bytes offset 2) =
    most_within bytes (offset + 2) (number_of (bytes_at bytes offset 2)) in
    and_from (are_bytes (bytes_at bytes (offset + 2) (number_of (bytes_at bytes offset 2))))
    (nat_le (length (bytes_at bytes (offset + 2) (number_of (bytes_at bytes offset 2)))) n)
    (bytes_within bytes (offset + 2) (number_of (bytes_at bytes offset 2)) h)
    (le-leb (length (bytes_at bytes (offset + 2) (number_of (bytes_at bytes offset 2)))) n (omega (arith, most, long)))

-- ---- a Str

first_of : (xs : List ℕ) (k : ℕ) → number_of (take 1 (drop k xs)) ≡ slice_index xs k
first_of [] zero = refl
first_of [] (suc k) = refl
first_of (x ∷ xs) zero = let one : x * 1 + 0 ≡ x = omega arith in one
first_of (x ∷ xs) (suc k) = first_of xs k

last_front : (xs : List ℕ) (m : ℕ) → slice_index (take (suc m) xs) m ≡ slice_index xs m
last_front [] zero = refl
last_front [] (suc m) = refl
last_front (x ∷ xs) zero = refl
last_front (x ∷ xs) (suc m) = last_front xs m

last_behind : (xs : List ℕ) (offset m : ℕ) → slice_index (drop offset xs) m ≡ slice_index xs (offset + m)
last_behind xs zero m = let same : m ≡ 0 + m = omega arith in ap (λ (k : ℕ). slice_index xs k) same
last_behind [] (suc offset) m = empty m (suc offset + m)
  where
    none_at : (k : ℕ) → slice_index [] k ≡ 0
    none_at zero = refl
    none_at (suc k) = refl

    empty : (a b : ℕ) → slice_index [] a ≡ slice_index [] b
    empty a b = none_at a ∙ sym (none_at b)
last_behind (x ∷ xs) (suc offset) m =
    let next : suc (offset + m) ≡ suc offset + m = omega arith in
    last_behind xs offset m ∙ ap (λ (k : ℕ). slice_index (x ∷ xs) k) next

pub str_kept : (n : ℕ) (bytes : List ℕ) (offset : ℕ) → are_bytes bytes ≡ true → 1 ≤ n → offset + n ≤ length bytes
    → rule.str_fits n bytes offset ≡ true → keeps (form.Str n) (kept.Buf (bytes_at bytes offset n)) ≡ true
str_kept zero bytes offset h some within fits = absurd (omega (arith, some))
str_kept (suc m) bytes offset h some within fits =
    let long : length (bytes_at bytes offset (suc m)) ≡ suc m = all_within bytes offset (suc m) within in
    let place : length (bytes_at bytes offset (suc m)) - 1 ≡ m = omega (arith, long) in
    let less : suc m - 1 ≡ m = omega arith in
    let last : last_byte (bytes_at bytes offset (suc m)) ≡ number_of (bytes_at bytes (offset + (suc m - 1)) 1) =
    ap (λ (k : ℕ). slice_index (take (suc m) (drop offset bytes)) k) place ∙ last_front (drop offset bytes) m
    ∙ last_behind bytes offset m
    ∙ sym (first_of bytes (offset + m))
    ∙ ap (λ (k : ℕ). number_of (bytes_at bytes (offset + k) 1)) (sym less) in
    and_from (are_bytes (bytes_at bytes offset (suc m)) && (length (bytes_at bytes offset (suc m)) == suc m))
    (last_byte (bytes_at bytes offset (suc m)) == 0)
    (and_from (are_bytes (bytes_at bytes offset (suc m))) (length (bytes_at bytes offset (suc m)) == suc m)
    (bytes_within bytes offset (suc m) h) (equal (length (bytes_at bytes offset (suc m))) (suc m) long))
    (ap (λ (k : ℕ). k == 0) last ∙ fits)
  where
    equal : (a b : ℕ) → a ≡ b → (a == b) ≡ true
    equal a b e = let same : (a == a) ≡ true = grind arith in subst (λ (k : ℕ). (a == k) ≡ true) e same
