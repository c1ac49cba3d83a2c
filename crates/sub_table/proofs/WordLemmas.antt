-- The least bit of a word from a place on.
use Rattle.std.proofs.Common.{ℕ, ◌≡◌, ◌≢◌, ◌<◌, ◌≤◌, ◌-◌, ◌*◌, ◌%◌, ◌^◌, min, inl, inr, sym, ◌∙◌, ap, arith}
use Rattle.std.proofs.lemmas.Bool.{cases_lt}
use Rattle.std.proofs.lemmas.Nat.Bits.{bit_at-zero, bit_at-lt, bit_at_and, bit_at_mask_inside, bit_at_mask_below, ones_shl, bit_at-trailing_zeros}
use Rattle.std.specs.Int.{w64, bit_at, trailing_zeros}
use Rattle.std.specs.Prelude.{bit_and}
use Rattle.sub_table.specs.Words.{HasNoBit, IsNextBit}

min_one : (x : ℕ) → x < 2 → min x 1 ≡ x
min_one x lt = omega arith

-- a word without its bits below a place
abbrev pub from_on : ℕ → ℕ → ℕ
from_on word from = bit_and word (18446744073709551615 * 2 ^ from % 18446744073709551616)

module _ (word from : ℕ) (few : from < 64) where
  mask : (18446744073709551615 * 2 ^ from % 18446744073709551616) ≡ 2 ^ 64 - 2 ^ from
  mask = ones_shl 64 from (omega arith)

  inside : (bit : ℕ) → from ≤ bit → bit < 64 → bit_at (from_on word from) bit ≡ bit_at word bit
  inside bit ge lt =
      bit_at_and word _ bit
      ∙ ap (min (bit_at word bit)) (ap (λ (m : ℕ). bit_at m bit) mask ∙ bit_at_mask_inside from 64 bit ge lt)
      ∙ min_one (bit_at word bit) (bit_at-lt word bit)

  below : (bit : ℕ) → bit < from → bit_at (from_on word from) bit ≡ 0
  below bit lt =
      let zero_bit : bit_at (18446744073709551615 * 2 ^ from % 18446744073709551616) bit ≡ 0 = ap (λ (m : ℕ). bit_at m bit) mask ∙ bit_at_mask_below from 64 bit lt in
      let both = bit_at_and word (18446744073709551615 * 2 ^ from % 18446744073709551616) bit in
      omega arith

  pub no_bit : from_on word from ≡ 0 → HasNoBit word from
  no_bit is bit ge lt = sym (inside bit ge lt) ∙ ap (λ (w : ℕ). bit_at w bit) is ∙ bit_at-zero bit

  pub next_is : from_on word from ≢ 0 → from_on word from < 18446744073709551616 → IsNextBit word from (trailing_zeros w64 (from_on word from))
  next_is some fits =
      let t = bit_at-trailing_zeros w64 (from_on word from) (omega arith) fits in
      let n = trailing_zeros w64 (from_on word from) in
      let ge : from ≤ n = elim (cases_lt n from) [
        | inl lt ↦ absurd (let z = below n lt in let o = t.1 in omega arith)
        | inr ge ↦ ge
      ] in
      record {
        from = ge;
        bound = t.0;
        set = sym (inside n ge t.0) ∙ t.1;
        least = λ bit from_le lt. sym (inside bit from_le (let b = t.0 in omega arith)) ∙ t.2 bit lt;
      }
