-- Letters, digits and `_` are shown as they stand, so names are.
use Rattle.std.proofs.Common.{◌≡◌, ℕ, zero, suc, ◌<◌, Bool, true, false, not, ◌&&◌, ◌||◌, ◌==◌, nat_le, length, List, [], ◌∷◌, ◌++◌, refl, ap, ap₂, subst, arith, inl, inr}
use Rattle.std.specs.List.{list_all}
use Rattle.std.specs.Str.{bytes_eq}
use Rattle.std.proofs.lemmas.Bool.{cases_lt, and_parts, or_cases}
use Rattle.std.proofs.lemmas.Bool.Decides.{nat_tests}
use Rattle.std.proofs.lemmas.Slice.Eq.{bytes_eq-Decides}
use lib.Utf8.{encode}
use Rattle.sed_value.specs.Characters.{is_letter, is_letter_or_digit, is_word_byte}
use Rattle.sed_value.specs.Names.{is_first_then, is_name, is_word, is_kit_name}
use Rattle.sed_value.specs.Shown.{shown_byte, shown}

-- the test passes each number below this one
abbrev all_below : (ℕ → Bool) → ℕ → Bool
all_below p zero = true
all_below p (suc n) = p n && all_below p n

passes_below : (p : ℕ → Bool) (n i : ℕ) → all_below p n ≡ true → i < n → p i ≡ true
passes_below p zero i all less = absurd (omega (arith, less))
passes_below p (suc n) i all less = elim (cases_lt i n) [
  | inl lower ↦ passes_below p n i (and_parts (p n) (all_below p n) all).1 lower
  | inr upper ↦
      let same : n ≡ i = omega (arith, less, upper) in
      subst (λ k. p k ≡ true) same (and_parts (p n) (all_below p n) all).0
]

-- what may stand in a word is shown as it is
abbrev is_plain : ℕ → Bool
is_plain b = not (is_word_byte b) || bytes_eq (shown_byte b) (b ∷ [])

plain_table : all_below is_plain 128 ≡ true
unfolding encode
plain_table = refl

shown_byte-word : (b : ℕ) → is_word_byte b ≡ true → shown_byte b ≡ b ∷ []
shown_byte-word b is =
    let small : b < 128 = grind (arith, nat_tests) in
    elim (or_cases (not (is_word_byte b)) (bytes_eq (shown_byte b) (b ∷ [])) (passes_below is_plain 128 b plain_table small)) [
      | inl other ↦ absurd (let none : not (is_word_byte b) ≡ false = ap not is in cc)
      | inr same ↦ (bytes_eq-Decides (shown_byte b) (b ∷ [])).0 same
    ]

pub shown-word : (bytes : List ℕ) → list_all is_word_byte bytes ≡ true → shown bytes ≡ bytes
shown-word [] all = refl
shown-word (b ∷ bs) all =
    let parts = and_parts (is_word_byte b) (list_all is_word_byte bs) all in
    ap₂ (λ (x y : List ℕ). x ++ y) (shown_byte-word b parts.0) (shown-word bs parts.1)

-- a form's bytes may all stand in a word
abbrev Allows : (ℕ → Bool) → Type 0
Allows p = (b : ℕ) → p b ≡ true → is_word_byte b ≡ true

all_words : (p : ℕ → Bool) → Allows p → (bytes : List ℕ) → list_all p bytes ≡ true → list_all is_word_byte bytes ≡ true
all_words p allows [] all = refl
all_words p allows (b ∷ bs) all =
    let parts = and_parts (p b) (list_all p bs) all in
    rw (allows b parts.0) (all_words p allows bs parts.1)

form_words : (p q : ℕ → Bool) → Allows p → Allows q → (bytes : List ℕ) → is_first_then p q bytes ≡ true → list_all is_word_byte bytes ≡ true
form_words p q first later [] is = cc
form_words p q first later (b ∷ bs) is =
    let parts = and_parts (p b) (list_all q bs) is in
    rw (first b parts.0) (all_words q later bs parts.1)

letter : Allows is_letter
letter b is = grind (arith, nat_tests)

letter_or_digit : Allows is_letter_or_digit
letter_or_digit b is = grind (arith, nat_tests)

word_lead : Allows (λ b. is_letter b || (b == 95))
word_lead b is = grind (arith, nat_tests)

pub name_words : (bytes : List ℕ) → is_name bytes ≡ true → list_all is_word_byte bytes ≡ true
name_words bytes is = form_words is_letter is_word_byte letter (λ b h. h) bytes (and_parts _ (nat_le (length bytes) 31) is).0

pub word_words : (bytes : List ℕ) → is_word bytes ≡ true → list_all is_word_byte bytes ≡ true
word_words bytes is = form_words (λ b. is_letter b || (b == 95)) is_word_byte word_lead (λ b h. h) bytes (and_parts _ (nat_le (length bytes) 31) is).0

pub kit_name_words : (bytes : List ℕ) → is_kit_name bytes ≡ true → list_all is_word_byte bytes ≡ true
kit_name_words bytes is = form_words is_letter is_letter_or_digit letter letter_or_digit bytes (and_parts _ (nat_le (length bytes) 24) is).0
