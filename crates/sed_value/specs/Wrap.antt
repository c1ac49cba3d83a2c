-- Two's complement: the number of a width that stands for a whole number.
use Rattle.std.specs.Prelude.{◌≡◌, ℕ, ◌*◌, ◌^◌, ℤ, pos, ◌+ℤ◌, unsigned_abs}
use Rattle.std.specs.Int.{Width, int_wrap, int_rem_euclid}
use mir.Val.{bits}

-- the number of the signed range of `width` that equals `number` modulo 2 to the width's bits
abbrev pub wrap : Width → ℤ → ℤ
wrap width number = int_wrap width number

-- the low bits of a whole number: that of the unsigned range of `width` which equals it modulo 2 to the width's bits
abbrev pub low_bits : Width → ℤ → ℕ
low_bits width number = unsigned_abs (int_rem_euclid number (pos (2 ^ bits width)))

-- two numbers are equal modulo 2 to the width's bits: they meet where multiples of it are added to each
abbrev pub IsEqualModulo : Width → ℤ → ℤ → Type 0
IsEqualModulo width a b = (j : ℕ) × (k : ℕ) × (a +ℤ pos (j * 2 ^ bits width) ≡ b +ℤ pos (k * 2 ^ bits width))
