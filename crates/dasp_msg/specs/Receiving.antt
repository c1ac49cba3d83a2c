-- What a receiver keeps, and what it stands for.
use Rattle.std.specs.Prelude.{◌≡◌, ℕ, ◌+◌, Bool, nat_le, List}
use Rattle.std.specs.Int.{bit_at}
use Rattle.dasp_msg.specs.Acks.{digit}
use Rattle.dasp_msg.specs.Numbers.{wire_number}
use Rattle.dasp_msg.specs.TakenIndexes.{is_taken, first_gap, IsTakenList}

-- the number of the first gap, a bit for each index from there on, and whether the gap has come so far that every
-- number stands for an index
pub record GapBits : Type 0 where
  pub gap : ℕ
  pub bits : ℕ
  pub far : Bool

-- these are those of the list
pub record ReceivesLike (kept : GapBits) (taken : List ℕ) : Type 0 where
  pub list : IsTakenList taken
  pub gap : kept.gap ≡ wire_number (first_gap taken)
  pub bits : (place : ℕ) → bit_at kept.bits place ≡ digit (is_taken taken (first_gap taken + place))
  pub far : kept.far ≡ nat_le 32768 (first_gap taken)
