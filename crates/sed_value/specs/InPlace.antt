-- What holds of bytes that are kept in an array of their longest length.
use Rattle.std.specs.Prelude.{◌≡◌, ℕ, ◌-◌, ◌≤◌, List, ◌++◌, length, take, drop, replicate}
use Rattle.std.proofs.Common.{sym, ◌∙◌, ap, arith, take-append-drop, length-take-le}

-- the first `len` of an array of `most` bytes are in use, and the others are 0
pub record IsPadded (most len : ℕ) (bytes : List ℕ) : Type 0 where
  pub whole : length bytes ≡ most
  pub fits : len ≤ most
  pub blank : drop len bytes ≡ replicate (most - len) 0

pub length_in_use : (most len : ℕ) (bytes : List ℕ) → IsPadded most len bytes
    → length (take len bytes) ≡ len
length_in_use most len bytes padded = length-take-le len bytes (omega (arith, padded.whole, padded.fits))

-- so the array is known from the bytes in use
pub padded_again : (most len : ℕ) (bytes : List ℕ) → IsPadded most len bytes
    → take len bytes ++ replicate (most - length (take len bytes)) 0 ≡ bytes
padded_again most len bytes padded =
    ap (λ (n : ℕ). take len bytes ++ replicate (most - n) 0) (length_in_use most len bytes padded)
    ∙ ap (λ (rest : List ℕ). take len bytes ++ rest) (sym padded.blank)
    ∙ take-append-drop len bytes
