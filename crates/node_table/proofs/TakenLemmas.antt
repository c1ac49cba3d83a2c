-- Bits of words as ids that are taken.
use Rattle.std.proofs.Common.{ℕ, ◌≡◌, ◌≢◌, ◌<◌, ◌≤◌, ◌+◌, ◌*◌, ◌/◌, ◌%◌, ◌^◌, inl, inr, true, false, List, length, replicate, sym, ◌∙◌, ap, subst, arith}
use Rattle.std.proofs.Math.ListN.{set, get_or}
use Rattle.std.proofs.lemmas.List.{get_or-set_same, get_or-set_other}
use Rattle.std.proofs.lemmas.Bool.{cases_eq, cases_lt}
use Rattle.std.proofs.lemmas.Nat.Bits.{bit_at-zero, bit_at_set_same, bit_at_set_other, bit_at_clear_same, bit_at_clear_other, bit_at_ones, bit_at-trailing_ones}
use Rattle.std.specs.Int.{w64, bit_at, bit_not, trailing_ones}
use Rattle.std.specs.Int.RustNames.{bit_or}
use Rattle.std.specs.Prelude.{◌==◌, bit_and}
use Rattle.sed_value.proofs.Lists.{zeros}
use Rattle.node_table.specs.Taken.{is_taken}

-- two ids in one word differ in their bits
same_word : (a b : ℕ) → a / 64 ≡ b / 64 → a % 64 ≡ b % 64 → a ≡ b
same_word a b words bits = omega arith

bit_of : (words : List ℕ) (id word : ℕ) (b : ℕ) → get_or words (id / 64) 0 ≡ word → bit_at word (id % 64) ≡ b → is_taken words id ≡ (b == 1)
bit_of words id word b is at = ap (λ (w : ℕ). bit_at w (id % 64) == 1) is ∙ ap (λ (n : ℕ). n == 1) at

pub none_taken : (words : List ℕ) (n : ℕ) → words ≡ replicate n 0 → (id : ℕ) → is_taken words id ≡ false
none_taken words n is id = bit_of words id 0 0 (ap (λ ws. get_or ws (id / 64) 0) is ∙ zeros n (id / 64)) (bit_at-zero (id % 64))

module _ (words : List ℕ) (id change : ℕ) (many : length words ≡ 64) (few : id < 4096) where
  others_kept : ((other : ℕ) → other < 64 → other ≢ id % 64 → bit_at change other ≡ bit_at (get_or words (id / 64) 0) other)
      → (other : ℕ) → other ≢ id → is_taken (set words (id / 64) change) other ≡ is_taken words other
  others_kept kept other ne = elim (cases_eq (other / 64) (id / 64)) [
    | inl same ↦
        let apart : other % 64 ≢ id % 64 = λ bits. ne (same_word other id same bits) in
        let below : other % 64 < 64 = omega arith in
        let within : id / 64 < length words = omega arith in
        ap (λ (k : ℕ). bit_at (get_or (set words (id / 64) change) k 0) (other % 64) == 1) same
        ∙ ap (λ (w : ℕ). bit_at w (other % 64) == 1) (get_or-set_same words (id / 64) change 0 within)
        ∙ ap (λ (n : ℕ). n == 1) (kept (other % 64) below apart)
        ∙ ap (λ (k : ℕ). bit_at (get_or words k 0) (other % 64) == 1) (sym same)
    | inr apart ↦ ap (λ (w : ℕ). bit_at w (other % 64) == 1) (get_or-set_other words (id / 64) (other / 64) change 0 apart)
  ]

  here_is : (b : ℕ) → bit_at change (id % 64) ≡ b → is_taken (set words (id / 64) change) id ≡ (b == 1)
  here_is b at =
      let within : id / 64 < length words = omega arith in
      bit_of (set words (id / 64) change) id change b (get_or-set_same words (id / 64) change 0 within) at

module _ (words : List ℕ) (id : ℕ) (many : length words ≡ 64) (few : id < 4096) where
  pub take_same : is_taken (set words (id / 64) (bit_or (get_or words (id / 64) 0) (1 * 2 ^ (id % 64) % 18446744073709551616))) id ≡ true
  take_same = here_is words id _ many few 1 (bit_at_set_same w64 (get_or words (id / 64) 0) (id % 64) (omega arith))

  pub take_others : (other : ℕ) → other ≢ id → is_taken (set words (id / 64) (bit_or (get_or words (id / 64) 0) (1 * 2 ^ (id % 64) % 18446744073709551616))) other ≡ is_taken words other
  take_others = others_kept words id _ many few (λ other below ne. bit_at_set_other w64 (get_or words (id / 64) 0) (id % 64) (omega arith) other ne)

  pub free_same : is_taken (set words (id / 64) (bit_and (get_or words (id / 64) 0) (bit_not w64 (1 * 2 ^ (id % 64) % 18446744073709551616)))) id ≡ false
  free_same = here_is words id _ many few 0 (bit_at_clear_same w64 (get_or words (id / 64) 0) (id % 64) (omega arith))

  pub free_others : (other : ℕ) → other ≢ id → is_taken (set words (id / 64) (bit_and (get_or words (id / 64) 0) (bit_not w64 (1 * 2 ^ (id % 64) % 18446744073709551616)))) other ≡ is_taken words other
  free_others = others_kept words id _ many few (λ other below ne. bit_at_clear_other w64 (get_or words (id / 64) 0) (id % 64) (omega arith) other below ne)

-- ---- the least that is free

quotient : (w b : ℕ) → b < 64 → (w * 64 + b) / 64 ≡ w
quotient w b lt = omega arith

remainder : (w b : ℕ) → b < 64 → (w * 64 + b) % 64 ≡ b
remainder w b lt = omega arith

full_word : (words : List ℕ) (id : ℕ) → get_or words (id / 64) 0 ≡ 18446744073709551615 → is_taken words id ≡ true
full_word words id full = bit_of words id 18446744073709551615 1 full (bit_at_ones 64 (id % 64) (omega arith))

-- where all words below are full, and the word's bits below are taken, all ids below are taken
pub below_taken : (words : List ℕ) (word bit : ℕ) → bit < 64 → ((k : ℕ) → k < word → get_or words k 0 ≡ 18446744073709551615)
    → ((k : ℕ) → k < bit → bit_at (get_or words word 0) k ≡ 1) → (id : ℕ) → id < word * 64 + bit → is_taken words id ≡ true
below_taken words word bit lt full ones id below = elim (cases_eq (id / 64) word) [
  | inl same ↦
      let under : id % 64 < bit = omega arith in
      bit_of words id (get_or words word 0) 1 (ap (λ (k : ℕ). get_or words k 0) same) (ones (id % 64) under)
  | inr apart ↦ full_word words id (full (id / 64) (omega arith))
]

pub here_free : (words : List ℕ) (word bit : ℕ) → bit < 64 → bit_at (get_or words word 0) bit ≡ 0 → is_taken words (word * 64 + bit) ≡ false
here_free words word bit lt zero_bit =
    bit_of words (word * 64 + bit) (get_or words word 0) 0 (ap (λ (k : ℕ). get_or words k 0) (quotient word bit lt))
    (ap (bit_at (get_or words word 0)) (remainder word bit lt) ∙ zero_bit)

-- a free id is in a word that isn't full, so the first that isn't is there
pub open_word : (words : List ℕ) (n id : ℕ) → length words ≡ 64 → id < 4096 → is_taken words id ≡ false → ((k : ℕ) → k < n → get_or words k 0 ≡ 18446744073709551615) → n ≤ length words → n < 64
open_word words n id many few free full le = elim (cases_lt n 64) [
  | inl lt ↦ lt
  | inr ge ↦
      let yes : is_taken words id ≡ true = full_word words id (full (id / 64) (omega arith)) in
      absurd (let no : true ≡ false = sym yes ∙ free in cc)
]

-- the place of the lowest 0 of a word that isn't full
pub record IsLowestOpen (word bit : ℕ) : Type 0 where
  pub within : bit < 64
  pub free : bit_at word bit ≡ 0
  pub below : (k : ℕ) → k < bit → bit_at word k ≡ 1

pub lowest_open : (word bit : ℕ) → word < 18446744073709551616 → word ≢ 18446744073709551615 → bit ≡ trailing_ones w64 word → IsLowestOpen word bit
lowest_open word bit fits some is =
    let t = bit_at-trailing_ones w64 word (omega arith) in
    record {
      within = subst (λ (k : ℕ). k < 64) (sym is) t.0;
      free = ap (bit_at word) is ∙ t.1;
      below = λ k lt. t.2 k (subst (λ (n : ℕ). k < n) is lt);
    }
