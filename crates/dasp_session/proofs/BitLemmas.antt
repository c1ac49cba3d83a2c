-- Numbers whose difference in bits is none.
use Rattle.std.proofs.Common.{◌≡◌, ℕ, ◌+◌, ◌%◌, sym, ◌∙◌, ap, arith, max}
use Rattle.std.specs.Prelude.{bit_or, bit_xor}
use Rattle.std.specs.Int.{bit_at}
use Rattle.std.proofs.lemmas.Nat.Bits.{bit_at_or, bit_at_xor, bit_at-zero, same_from_bits}

-- an `or` that is 0 is of two zeros
pub or-zero : (a b : ℕ) → bit_or a b ≡ 0 → (a ≡ 0) × (b ≡ 0)
or-zero a b none =
    let each : (i : ℕ) → max (bit_at a i) (bit_at b i) ≡ 0 = λ i. sym (bit_at_or a b i) ∙ ap (λ (n : ℕ). bit_at n i) none ∙ bit_at-zero i in (
      same_from_bits a 0 (λ i. omega (arith, each i, bit_at-zero i)),
      same_from_bits b 0 (λ i. omega (arith, each i, bit_at-zero i)),
    )

-- a number of which a difference in bits is 0 is the other
pub xor-zero : (a b : ℕ) → bit_xor a b ≡ 0 → a ≡ b
xor-zero a b none =
    same_from_bits a b (λ i.
    let e : (bit_at a i + bit_at b i) % 2 ≡ 0 = sym (bit_at_xor a b i) ∙ ap (λ (n : ℕ). bit_at n i) none ∙ bit_at-zero i in omega arith)
