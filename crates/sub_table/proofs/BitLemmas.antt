-- Bits of words as numbers that have subscribed.
use Rattle.std.proofs.Common.{ℕ, ◌≡◌, ◌≢◌, ◌<◌, ◌*◌, ◌/◌, ◌%◌, ◌^◌, inl, inr, true, false, List, length, replicate, sym, ◌∙◌, ap, arith}
use Rattle.std.proofs.Math.ListN.{set, get_or}
use Rattle.std.proofs.lemmas.List.{get_or-set_same, get_or-set_other}
use Rattle.std.proofs.lemmas.Bool.{cases_eq}
use Rattle.std.proofs.lemmas.Nat.Bits.{bit_at-zero, bit_at_set_same, bit_at_set_other, bit_at_clear_same, bit_at_clear_other}
use Rattle.std.specs.Int.{w64, bit_at, bit_not}
use Rattle.std.specs.Int.RustNames.{bit_or}
use Rattle.std.specs.Prelude.{◌==◌, bit_and}
use Rattle.sed_value.proofs.Lists.{zeros}
use Rattle.sub_table.specs.Holders.{is_member}

-- two numbers in one word differ in their bits
same_word : (a b : ℕ) → a / 64 ≡ b / 64 → a % 64 ≡ b % 64 → a ≡ b
same_word a b words bits = omega arith

pub bit_of : (words : List ℕ) (number word : ℕ) (b : ℕ) → get_or words (number / 64) 0 ≡ word → bit_at word (number % 64) ≡ b → is_member words number ≡ (b == 1)
bit_of words number word b is at = ap (λ (w : ℕ). bit_at w (number % 64) == 1) is ∙ ap (λ (n : ℕ). n == 1) at

pub no_member : (words : List ℕ) (n : ℕ) → words ≡ replicate n 0 → (number : ℕ) → is_member words number ≡ false
no_member words n is number = bit_of words number 0 0 (ap (λ ws. get_or ws (number / 64) 0) is ∙ zeros n (number / 64)) (bit_at-zero (number % 64))

module _ (words : List ℕ) (number change : ℕ) (within : number / 64 < length words) where
  others_kept : ((other : ℕ) → other < 64 → other ≢ number % 64 → bit_at change other ≡ bit_at (get_or words (number / 64) 0) other)
      → (other : ℕ) → other ≢ number → is_member (set words (number / 64) change) other ≡ is_member words other
  others_kept kept other ne = elim (cases_eq (other / 64) (number / 64)) [
    | inl same ↦
        let apart : other % 64 ≢ number % 64 = λ bits. ne (same_word other number same bits) in
        let below : other % 64 < 64 = omega arith in
        ap (λ (k : ℕ). bit_at (get_or (set words (number / 64) change) k 0) (other % 64) == 1) same
        ∙ ap (λ (w : ℕ). bit_at w (other % 64) == 1) (get_or-set_same words (number / 64) change 0 within)
        ∙ ap (λ (n : ℕ). n == 1) (kept (other % 64) below apart)
        ∙ ap (λ (k : ℕ). bit_at (get_or words k 0) (other % 64) == 1) (sym same)
    | inr apart ↦ ap (λ (w : ℕ). bit_at w (other % 64) == 1) (get_or-set_other words (number / 64) (other / 64) change 0 apart)
  ]

  here_is : (b : ℕ) → bit_at change (number % 64) ≡ b → is_member (set words (number / 64) change) number ≡ (b == 1)
  here_is b at = bit_of (set words (number / 64) change) number change b (get_or-set_same words (number / 64) change 0 within) at

module _ (words : List ℕ) (number : ℕ) (within : number / 64 < length words) where
  pub set_same : is_member (set words (number / 64) (bit_or (get_or words (number / 64) 0) (1 * 2 ^ (number % 64) % 18446744073709551616))) number ≡ true
  set_same = here_is words number _ within 1 (bit_at_set_same w64 (get_or words (number / 64) 0) (number % 64) (omega arith))

  pub set_others : (other : ℕ) → other ≢ number → is_member (set words (number / 64) (bit_or (get_or words (number / 64) 0) (1 * 2 ^ (number % 64) % 18446744073709551616))) other ≡ is_member words other
  set_others = others_kept words number _ within (λ other below ne. bit_at_set_other w64 (get_or words (number / 64) 0) (number % 64) (omega arith) other ne)

  pub clear_same : is_member (set words (number / 64) (bit_and (get_or words (number / 64) 0) (bit_not w64 (1 * 2 ^ (number % 64) % 18446744073709551616)))) number ≡ false
  clear_same = here_is words number _ within 0 (bit_at_clear_same w64 (get_or words (number / 64) 0) (number % 64) (omega arith))

  pub clear_others : (other : ℕ) → other ≢ number → is_member (set words (number / 64) (bit_and (get_or words (number / 64) 0) (bit_not w64 (1 * 2 ^ (number % 64) % 18446744073709551616)))) other ≡ is_member words other
  clear_others = others_kept words number _ within (λ other below ne. bit_at_clear_other w64 (get_or words (number / 64) 0) (number % 64) (omega arith) other below ne)
