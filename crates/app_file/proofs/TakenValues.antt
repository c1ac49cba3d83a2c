-- Values that bytes are, where they are good ones: each is of its type, and so goes to it.
use Rattle.std.proofs.Common.{ℕ, zero, suc, ◌≡◌, ◌≤◌, ◌<◌, ◌^◌, Bool, true, false, refl, ◌∙◌, ap, subst, arith, take, drop}
use Rattle.std.proofs.Math.Facts.{sfits_to_z}
use Rattle.std.specs.Prelude.{Option, Some, None, IsTrue, ◌&&◌, ◌||◌, nat_le, nat_lt, if◌then◌else◌, List, [], ◌∷◌, length}
use Rattle.std.specs.Option.{option_map, option_map_or}
use Rattle.std.specs.List.{list_any, zip}
use Rattle.std.specs.Int.{w32, w64, cast_signed}
use Rattle.std.specs.Int.Signed.{mag}
use Rattle.std.proofs.Common.{SFits, to_z}
use Rattle.std.proofs.lemmas.Bool.Decides.{nat_tests}
use Rattle.sed_value.specs.SlotType.{width_of}
use Rattle.sed_value.specs.Value.{are_bytes, goes_to, is_of_type, is_signed, reads_as_int}
use Rattle.sed_value.specs.declared.slot_type.Primitive.TheVariants.{Bool as BoolType, Byte as ByteType, Short as ShortType, Int as IntType, Long as LongType}
use Rattle.sed_value.specs.declared.slot_type.SlotType.{SlotType}
use Rattle.sed_value.specs.declared.slot_type.SlotType.TheVariants.{Prim, Buf}
use Rattle.sed_value.specs.declared.value.Value.{Value}
use Rattle.sed_wire.specs.Faults.{size_of}
use Rattle.sed_wire.specs.Number.{number_of}
use Rattle.sed_wire.proofs.FrontLemmas.{number_of-below}
use Rattle.comp_tree.specs.Values.{are_bad_values, have_long_buffer, is_bad_truth, is_too_long, taken, value_of, values_of}
use Rattle.std.proofs.lemmas.Bool.{or_parts as neither}

-- ---- fronts of bytes

both : (a b : Bool) → IsTrue (a && b) → IsTrue a × IsTrue b
both true b h = (refl, h)
both false b h = absurd (let no : false ≡ true = h in cc)

and_both : (a b : Bool) → IsTrue a → IsTrue b → IsTrue (a && b)
and_both true b h k = k
and_both false b h k = h

bytes_taken : (k : ℕ) (bytes : List ℕ) → IsTrue (are_bytes bytes) → IsTrue (are_bytes (take k bytes))
bytes_taken zero bytes are = refl
bytes_taken (suc k) [] are = refl
bytes_taken (suc k) (byte ∷ bytes) are = let r = both (nat_lt byte 256) (are_bytes bytes) are in and_both (nat_lt byte 256) (are_bytes (take k bytes)) r.0 (bytes_taken k bytes r.1)

bytes_left : (k : ℕ) (bytes : List ℕ) → IsTrue (are_bytes bytes) → IsTrue (are_bytes (drop k bytes))
bytes_left zero bytes are = are
bytes_left (suc k) [] are = refl
bytes_left (suc k) (byte ∷ bytes) are = bytes_left k bytes (both (nat_lt byte 256) (are_bytes bytes) are).1

long_taken : (k : ℕ) (bytes : List ℕ) → k ≤ length bytes → length (take k bytes) ≡ k
long_taken zero bytes le = refl
long_taken (suc k) [] le = absurd (omega arith)
long_taken (suc k) (byte ∷ bytes) le = ap suc (long_taken k bytes (omega arith))

-- ---- one value

-- as many bytes as a primitive takes
abbrev IsLong : SlotType → List ℕ → Type 0
IsLong (Prim p) bytes = length bytes ≡ width_of p
IsLong (Buf most) bytes = Unit {0}

below : (bytes : List ℕ) (k : ℕ) → IsTrue (are_bytes bytes) → length bytes ≡ k → number_of bytes < 256 ^ k
below bytes k are long = subst (λ (n : ℕ). number_of bytes < 256 ^ n) long (number_of-below bytes are)

test_below : (n k : ℕ) → n < k → nat_lt n k ≡ true
test_below n k lt = grind (arith, nat_tests)

not_above : (n k : ℕ) → nat_lt k n ≡ false → nat_le n k ≡ true
not_above n k le = grind (arith, nat_tests)

signed_4 : (n : ℕ) → n < 2 ^ 32 → is_signed w32 (cast_signed w32 n) ≡ true
signed_4 n low = let signed : SFits w32 (to_z w32 n) = sfits_to_z (record { fits = low }) in test_below (mag (to_z w32 n)) (2 ^ 31) signed.sfits

signed_8 : (n : ℕ) → n < 2 ^ 64 → is_signed w64 (cast_signed w64 n) ≡ true
signed_8 n low = let signed : SFits w64 (to_z w64 n) = sfits_to_z (record { fits = low }) in test_below (mag (to_z w64 n)) (2 ^ 63) signed.sfits

value_is : (t : SlotType) (bytes : List ℕ) → IsTrue (are_bytes bytes) → IsLong t bytes → is_bad_truth (value_of t bytes) ≡ false → is_too_long t (value_of t bytes) ≡ false
    → IsTrue (is_of_type t (value_of t bytes))
value_is (Prim BoolType) bytes are long good short = not_above (number_of bytes) 2 good
value_is (Prim ByteType) bytes are long good short = test_below (number_of bytes) 256 (below bytes 1 are long)
value_is (Prim ShortType) bytes are long good short = test_below (number_of bytes) 65536 (below bytes 2 are long)
value_is (Prim IntType) bytes are long good short = signed_4 (number_of bytes) (below bytes 4 are long)
value_is (Prim LongType) bytes are long good short = signed_8 (number_of bytes) (below bytes 8 are long)
value_is (Buf most) bytes are long good short =
    and_both (are_bytes (drop 2 bytes)) (nat_le (length (drop 2 bytes)) most) (bytes_left 2 bytes are) (not_above (length (drop 2 bytes)) most short)

left_or : (a b : Bool) → IsTrue a → IsTrue (a || b)
left_or true b h = refl
left_or false b h = absurd (let no : false ≡ true = h in cc)

right_or : (a b : Bool) → IsTrue b → IsTrue (a || b)
right_or true b h = refl
right_or false b h = h

-- a value of a type goes to it
pub goes_home : (t : SlotType) (v : Value) → IsTrue (is_of_type t v) → IsTrue (goes_to t v)
goes_home (Prim BoolType) v is = is
goes_home (Prim ByteType) v is = left_or (is_of_type (Prim ByteType) v || is_of_type (Prim ShortType) v) (is_of_type (Prim IntType) v) (left_or (is_of_type (Prim ByteType) v) (is_of_type (Prim ShortType) v) is)
goes_home (Prim ShortType) v is = left_or (is_of_type (Prim ByteType) v || is_of_type (Prim ShortType) v) (is_of_type (Prim IntType) v) (right_or (is_of_type (Prim ByteType) v) (is_of_type (Prim ShortType) v) is)
goes_home (Prim IntType) v is = right_or (is_of_type (Prim ByteType) v || is_of_type (Prim ShortType) v) (is_of_type (Prim IntType) v) is
goes_home (Prim LongType) v is = right_or (reads_as_int v) (is_of_type (Prim LongType) v) is
goes_home (Buf most) v is = is

-- ---- several values

-- as many values as types, each of its own
abbrev pub EachOf : List SlotType → List Value → Type 0
EachOf [] [] = Unit {0}
EachOf [] (v ∷ values) = ⊥
EachOf (t ∷ types) [] = ⊥
EachOf (t ∷ types) (v ∷ values) = IsTrue (is_of_type t v) × EachOf types values

some_one : (x y : List Value) → ◌≡◌ {A = Option (List Value)} (Some x) (Some y) → x ≡ y
some_one x y e = cc

long_enough : (t : SlotType) (bytes : List ℕ) → nat_lt (length bytes) (size_of t bytes) ≡ false → IsLong t (take (size_of t bytes) bytes)
long_enough (Prim p) bytes le = long_taken (width_of p) bytes (at_least (length bytes) (width_of p) le)
  where
    at_least : (n k : ℕ) → nat_lt n k ≡ false → k ≤ n
    at_least n k le = grind (arith, nat_tests)
long_enough (Buf most) bytes le = tt {0}

values_are : (types : List SlotType) (bytes : List ℕ) (values : List Value) → IsTrue (are_bytes bytes) → values_of types bytes ≡ Some values
    → list_any is_bad_truth values ≡ false → list_any (λ (e : SlotType × Value). is_too_long e.0 e.1) (zip types values) ≡ false → EachOf types values
values_are [] [] values are is good short = subst (EachOf []) (some_one [] values is) (tt {0})
values_are [] (byte ∷ bytes) values are is good short = absurd (let no : ◌≡◌ {A = Option (List Value)} None (Some values) = is in cc)
values_are (t ∷ types) bytes values are is good short =
    by_length (nat_lt (length bytes) (size_of t bytes)) refl (values_of types (drop (size_of t bytes) bytes)) is
    (λ rest is good short. values_are types (drop (size_of t bytes) bytes) rest (bytes_left (size_of t bytes) bytes are) is good short) refl
  where
    by_length : (b : Bool) → nat_lt (length bytes) (size_of t bytes) ≡ b → (r : Option (List Value)) → (if b then None else option_map (λ (rest : List Value). value_of t (take (size_of t bytes) bytes) ∷ rest) r) ≡ Some values
        → ((rest : List Value) → values_of types (drop (size_of t bytes) bytes) ≡ Some rest → list_any is_bad_truth rest ≡ false → list_any (λ (e : SlotType × Value). is_too_long e.0 e.1) (zip types rest) ≡ false → EachOf types rest)
        → values_of types (drop (size_of t bytes) bytes) ≡ r → EachOf (t ∷ types) values
    by_length true test r is more at = absurd (let no : ◌≡◌ {A = Option (List Value)} None (Some values) = is in cc)
    by_length false test None is more at = absurd (let no : ◌≡◌ {A = Option (List Value)} None (Some values) = is in cc)
    by_length false test (Some rest) is more at =
        let v = value_of t (take (size_of t bytes) bytes) in
        let whole : v ∷ rest ≡ values = some_one (v ∷ rest) values is in
        let good = neither (is_bad_truth v) (list_any is_bad_truth rest) (ap (list_any is_bad_truth) whole ∙ good) in
        let short = neither (is_too_long t v) (list_any (λ (e : SlotType × Value). is_too_long e.0 e.1) (zip types rest)) (ap (λ (vs : List Value). list_any (λ (e : SlotType × Value). is_too_long e.0 e.1) (zip (t ∷ types) vs)) whole ∙ short) in
        subst (EachOf (t ∷ types)) whole
        (value_is t (take (size_of t bytes) bytes) (bytes_taken (size_of t bytes) bytes are) (long_enough t bytes test) good.0 short.0, more rest at good.1 short.1)

pub taken_are : (types : List SlotType) (bytes : List ℕ) → IsTrue (are_bytes bytes) → are_bad_values types bytes ≡ false → have_long_buffer types bytes ≡ false → EachOf types (taken types bytes)
taken_are types bytes are good short = by_values (values_of types bytes) refl good short
  where
    by_values : (r : Option (List Value)) → values_of types bytes ≡ r → option_map_or (λ (values : List Value). list_any is_bad_truth values) r true ≡ false
        → list_any (λ (e : SlotType × Value). is_too_long e.0 e.1) (zip types (option_map_or (λ (values : List Value). values) r [])) ≡ false → EachOf types (option_map_or (λ (values : List Value). values) r [])
    by_values None at good short = absurd (let no : true ≡ false = good in cc)
    by_values (Some values) at good short = values_are types bytes values are at good short
