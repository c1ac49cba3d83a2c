-- The bits of one word.
use Rattle.std.specs.Prelude.{ℕ, ◌≡◌, ◌<◌, ◌≤◌}
use Rattle.std.specs.Int.{bit_at}

-- none of the 64 bits from this one on is set
abbrev pub HasNoBit : ℕ → ℕ → Type 0
HasNoBit word from = (bit : ℕ) → from ≤ bit → bit < 64 → bit_at word bit ≡ 0

-- the least one from there on that is set
pub record IsNextBit (word start next : ℕ) : Type 0 where
  pub from : start ≤ next
  pub bound : next < 64
  pub set : bit_at word next ≡ 1
  pub least : (bit : ℕ) → start ≤ bit → bit < next → bit_at word bit ≡ 0
