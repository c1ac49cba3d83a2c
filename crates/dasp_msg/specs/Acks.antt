-- The four bytes beside an acknowledgement.
use Rattle.std.specs.Prelude.{◌≡◌, ℕ, ◌+◌, ◌/◌, ◌%◌, ◌<◌, Bool, if◌then◌else◌, List, length, slice_index}
use Rattle.std.specs.Int.{bit_at}
use Rattle.dasp_msg.specs.Numbers.{number_before}
use Rattle.dasp_msg.specs.TakenIndexes.{is_taken, first_gap}

abbrev pub digit : Bool → ℕ
digit bit = if bit then 1 else 0

-- bit `place` of bytes, byte by byte and lowest first in each
abbrev pub bit_of_bytes : List ℕ → ℕ → ℕ
bit_of_bytes bytes place = bit_at (slice_index bytes (place / 8)) (place % 8)

-- the number of the last index before the first gap; 65,535 before anything was taken
abbrev pub ack_of : List ℕ → ℕ
ack_of taken = number_before (first_gap taken)

-- bit j says whether the index j above the first gap was taken
pub record SaysMore (taken : List ℕ) (bytes : List ℕ) : Type 0 where
  pub four : length bytes ≡ 4
  pub bits : (place : ℕ) → place < 32
      → bit_of_bytes bytes place ≡ digit (is_taken taken (first_gap taken + place))
