-- Numbers in bytes, the highest byte first.
use Rattle.std.specs.Prelude.{◌≡◌, ℕ, ◌+◌, ◌*◌, ◌^◌, ℤ, Bool, nat_lt, IsTrue, List, [], ◌∷◌, length, FitsSigned}
use Rattle.std.specs.Int.{Width, byte_len, bytes_high_first, cast_unsigned}
use Rattle.std.specs.List.{list_all}

abbrev pub is_byte : ℕ → Bool
is_byte number = nat_lt number 256

-- the number that bytes are: each is worth 256 to the number of bytes behind it
abbrev pub number_of : List ℕ → ℕ
number_of [] = 0
number_of (byte ∷ behind) = byte * 256 ^ length behind + number_of behind

-- the bytes of a number that fits so many: one, two or four
abbrev pub u1 : ℕ → List ℕ
u1 number = bytes_high_first 1 number

abbrev pub u2 : ℕ → List ℕ
u2 number = bytes_high_first 2 number

abbrev pub u4 : ℕ → List ℕ
u4 number = bytes_high_first 4 number

-- so many bytes, and their number
pub record SpellsNumber (width number : ℕ) (bytes : List ℕ) : Type 0 where
  pub as_many : length bytes ≡ width
  pub are_bytes : IsTrue (list_all is_byte bytes)
  pub is_number : number_of bytes ≡ number

-- a signed number of a width is spelled by the number that is its two's complement
pub record SpellsSigned (width : Width) (number : ℤ) (bytes : List ℕ) : Type 0 where
  pub fits : FitsSigned width number
  pub complement : SpellsNumber (byte_len width) (cast_unsigned width number) bytes
