-- The bytes of Strs and of texts.
use Rattle.std.proofs.Common.{◌≡◌, ◌<◌, ◌≤◌, ◌+◌, ◌-◌, ◌==◌, ◌&&◌, not, ℕ, zero, suc, true, List, [], ◌∷◌, ◌++◌, length, take, replicate, refl, ap, ◌∙◌, length-append, arith}
use Rattle.std.specs.Prelude.{nat_lt, slice_index, slice_set}
use Rattle.std.specs.Int.{w8}
use Rattle.std.specs.List.{prefix_len}
use Rattle.std.proofs.lemmas.Bool.{and_parts, and_from, eqb-true}
use Rattle.std.proofs.lemmas.List.{length-set}
use Rattle.sed_value.specs.Wrap.{low_bits}
use Rattle.sed_value.specs.declared.value.Value.TheVariants as kept
use Rattle.sed_typed.specs.declared.program.FieldForm.TheVariants as form
use Rattle.sed_typed.specs.Typed.{IsText}
use Rattle.sed_engine.specs.Values.{are_bytes, last_byte}
use Rattle.sed_engine.specs.Fits.{keeps}
use Rattle.sed_engine.specs.Texts.{characters, literal_bytes, with_character, filled}
use Rattle.sed_engine.proofs.FirstFits.{zeros_bytes, zeros_length, equal}
use Rattle.sed_engine.proofs.Ranges.{low_byte}

pub byte_at : (bytes : List ℕ) (i : ℕ) → are_bytes bytes ≡ true → nat_lt (slice_index bytes i) 256 ≡ true
byte_at [] i h = refl
byte_at (b ∷ bs) zero h = (and_parts (nat_lt b 256) (are_bytes bs) h).0
byte_at (b ∷ bs) (suc i) h = byte_at bs i (and_parts (nat_lt b 256) (are_bytes bs) h).1

bytes_set : (bytes : List ℕ) (i b : ℕ) → are_bytes bytes ≡ true → nat_lt b 256 ≡ true → are_bytes (slice_set bytes i b) ≡ true
bytes_set [] i b h k = refl
bytes_set (x ∷ xs) zero b h k = and_from (nat_lt b 256) (are_bytes xs) k (and_parts (nat_lt x 256) (are_bytes xs) h).1
bytes_set (x ∷ xs) (suc i) b h k =
    let parts : (nat_lt x 256 ≡ true) × (are_bytes xs ≡ true) = and_parts (nat_lt x 256) (are_bytes xs) h in
    and_from (nat_lt x 256) (are_bytes (slice_set xs i b)) parts.0 (bytes_set xs i b parts.1 k)

other_byte : (bytes : List ℕ) (i j b : ℕ) → i < j → slice_index (slice_set bytes i b) j ≡ slice_index bytes j
other_byte [] i j b h = refl
other_byte (x ∷ xs) i zero b h = absurd (omega (arith, h))
other_byte (x ∷ xs) zero (suc j) b h = refl
other_byte (x ∷ xs) (suc i) (suc j) b h = other_byte xs i j b (omega (arith, h))

pub bytes_append : (a b : List ℕ) → are_bytes a ≡ true → are_bytes b ≡ true → are_bytes (a ++ b) ≡ true
bytes_append [] b h k = k
bytes_append (x ∷ xs) b h k =
    let parts : (nat_lt x 256 ≡ true) × (are_bytes xs ≡ true) = and_parts (nat_lt x 256) (are_bytes xs) h in
    and_from (nat_lt x 256) (are_bytes (xs ++ b)) parts.0 (bytes_append xs b parts.1 k)

bytes_take : (n : ℕ) (bytes : List ℕ) → are_bytes bytes ≡ true → are_bytes (take n bytes) ≡ true
bytes_take zero bytes h = refl
bytes_take (suc n) [] h = refl
bytes_take (suc n) (x ∷ xs) h =
    let parts : (nat_lt x 256 ≡ true) × (are_bytes xs ≡ true) = and_parts (nat_lt x 256) (are_bytes xs) h in
    and_from (nat_lt x 256) (are_bytes (take n xs)) parts.0 (bytes_take n xs parts.1)

take_most : (n : ℕ) (bytes : List ℕ) → (length (take n bytes) ≤ n) × (length (take n bytes) ≤ length bytes)
take_most zero bytes = (omega arith, omega arith)
take_most (suc n) [] = (omega arith, omega arith)
take_most (suc n) (x ∷ xs) = let rest = take_most n xs in (omega (arith, rest.0), omega (arith, rest.1))

-- past the front of a list of zeros behind it stands 0
zero_behind : (front : List ℕ) (n i : ℕ) → length front ≤ i → slice_index (front ++ replicate n 0) i ≡ 0
zero_behind [] zero i h = refl
zero_behind [] (suc n) zero h = refl
zero_behind [] (suc n) (suc i) h = zero_behind [] n i (omega arith)
zero_behind (x ∷ xs) n zero h = absurd (omega (arith, h))
zero_behind (x ∷ xs) n (suc i) h = zero_behind xs n i (omega (arith, h))

-- the bytes of a Str, by parts
pub record StrBytes (n : ℕ) (bytes : List ℕ) : Type 0 where
  pub bytes_are : are_bytes bytes ≡ true
  pub long : length bytes ≡ n
  pub last : last_byte bytes ≡ 0

pub str_of : (n : ℕ) (bytes : List ℕ) → keeps (form.Str n) (kept.Buf bytes) ≡ true → StrBytes n bytes
str_of n bytes k =
    let a : ((are_bytes bytes && (length bytes == n)) ≡ true) × ((last_byte bytes == 0) ≡ true) = and_parts (are_bytes bytes && (length bytes == n)) (last_byte bytes == 0) k in
    let b : (are_bytes bytes ≡ true) × ((length bytes == n) ≡ true) = and_parts (are_bytes bytes) (length bytes == n) a.0 in
    record { bytes_are = b.0; long = eqb-true (length bytes) n b.1; last = eqb-true (last_byte bytes) 0 a.1 }

pub str_from : (n : ℕ) (bytes : List ℕ) → StrBytes n bytes → keeps (form.Str n) (kept.Buf bytes) ≡ true
str_from n bytes s =
    and_from (are_bytes bytes && (length bytes == n)) (last_byte bytes == 0)
    (and_from (are_bytes bytes) (length bytes == n) s.bytes_are (equal (length bytes) n s.long)) (equal (last_byte bytes) 0 s.last)

-- a Str with another character before its last byte
pub set_str : (n : ℕ) (bytes : List ℕ) (i : ℕ) (c : _) → StrBytes n bytes → i < length bytes - 1 → StrBytes n (with_character bytes i c)
set_str n bytes i c s h =
    let b : ℕ = low_bits w8 c in
    let same : length (slice_set bytes i b) ≡ length bytes = length-set bytes i b in
    record {
      bytes_are = bytes_set bytes i b s.bytes_are (low_byte c);
      long = same ∙ s.long;
      last = ap (λ (k : ℕ). slice_index (slice_set bytes i b) (k - 1)) same ∙ other_byte bytes i (length bytes - 1) b h ∙ s.last;
    }

-- a Str that is filled anew
pub filled_str : (n : ℕ) (chars : List ℕ) → are_bytes chars ≡ true → StrBytes n (filled n chars)
filled_str n chars h =
    let front : List ℕ = take (n - 1) chars in
    let few : length front ≤ n - 1 = (take_most (n - 1) chars).0 in
    let zeros : length {A = ℕ} (replicate (n - length front) 0) ≡ n - length front = zeros_length (n - length front) in
    let all : length (filled n chars) ≡ length front + length {A = ℕ} (replicate (n - length front) 0) = length-append front (replicate (n - length front) 0) in
    let long : length (filled n chars) ≡ n = omega (arith, few, zeros, all) in
    record {
      bytes_are = bytes_append front (replicate (n - length front) 0) (bytes_take (n - 1) chars h) (zeros_bytes (n - length front));
      long = long;
      last = zero_behind front (n - length front) (length (filled n chars) - 1) (omega (arith, few, long));
    }

-- the bytes that a text has
abbrev pub TextBytes : List ℕ → Type 0
TextBytes bytes = (are_bytes bytes ≡ true) × (length bytes ≤ 256)

pub chars_of : (bytes : List ℕ) → TextBytes bytes → (are_bytes (characters bytes) ≡ true) × (length (characters bytes) ≤ 256)
chars_of bytes h =
    let few = (take_most (prefix_len (λ b. not (b == 0)) bytes) bytes).1 in
    (bytes_take (prefix_len (λ b. not (b == 0)) bytes) bytes h.0, omega (arith, few, h.1))

pub literal_text : (t : List ℕ) → IsText t → TextBytes (literal_bytes t)
literal_text t is =
    let long : length (t ++ 0 ∷ []) ≡ length t + 1 = length-append t (0 ∷ []) in
    (bytes_append t (0 ∷ []) is.0 refl, omega (arith, is.1, long))
