-- The numbers that messages carry, and the indexes that they stand for.
use Rattle.std.specs.Prelude.{◌≡◌, ℕ, ◌+◌, ◌-◌, ◌%◌, ◌<◌, ◌≤◌, nat_lt, nat_le, if◌then◌else◌, Option, Some, None}

-- a message carries its index modulo 65,536
abbrev pub wire_number : ℕ → ℕ
wire_number index = index % 65536

-- the number before that of an index; before the first one it is 65,535
abbrev pub number_before : ℕ → ℕ
number_before index = wire_number (index + 65535)

-- how far it is from an index up to the next one of this number
abbrev pub distance : ℕ → ℕ → ℕ
distance from number = (number + (65536 - wire_number from)) % 65536

-- at a receiver whose first gap is `gap`, a number stands for the one index of that number which lies
-- at most 32,768 below the gap, or less than 32,768 above it
pub record StandsForIndex (gap number index : ℕ) : Type 0 where
  pub numbered : wire_number index ≡ number
  pub least : gap ≤ index + 32768
  pub most : index < gap + 32768

-- that index; there is none where it would lie below 0
abbrev pub index_of : ℕ → ℕ → Option ℕ
index_of gap number =
    if nat_lt (distance gap number) 32768 then Some (gap + distance gap number)
    else (if nat_le 65536 (gap + distance gap number) then Some (gap + distance gap number - 65536) else None)
