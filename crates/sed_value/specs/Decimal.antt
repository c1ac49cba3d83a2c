-- Numbers that are written in decimal digits alone.
use Rattle.std.specs.Prelude.{ℕ, ◌+◌, ◌-◌, ◌*◌, Bool, ◌&&◌, nat_lt, nat_le, if◌then◌else◌, List, length, fold, Option}
use Rattle.std.specs.Prelude.{Some, None}
use Rattle.std.specs.List.{list_all}
use Rattle.sed_value.specs.Characters.{is_digit}

-- the number with one more digit at its end; 48 is the byte of the digit 0
abbrev pub with_digit : ℕ → ℕ → ℕ
with_digit number digit = number * 10 + (digit - 48)

-- one digit or more, and nothing else; it may begin with zeros
abbrev pub is_decimal : List ℕ → Bool
is_decimal bytes = nat_lt 0 (length bytes) && list_all is_digit bytes

-- the number that digits write
abbrev pub decimal_value : List ℕ → ℕ
decimal_value digits = fold with_digit 0 digits

-- the number of at most `most` that the bytes write, if they write one
abbrev pub number_of : ℕ → List ℕ → Option ℕ
number_of most bytes =
    if is_decimal bytes && nat_le (decimal_value bytes) most then Some (decimal_value bytes) else None
