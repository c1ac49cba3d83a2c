-- Shifts and divisions of ints and longs, for either width.
use Rattle.std.specs.Prelude.{ℕ, ◌^◌, ℤ, pos, ◌*ℤ◌, int_div, int_rem, unsigned_abs, Option, Some, None, if◌then◌else◌}
use Rattle.std.specs.Int.{Width, int_rem_euclid, int_div_euclid}
use Rattle.std.specs.Ordering.{int_eq}
use mir.Val.{bits}
use Rattle.sed_value.specs.Wrap.{wrap}

-- how far a count shifts: the count modulo the width's bits, from 0 to one less than these
abbrev pub shift_distance : Width → ℤ → ℕ
shift_distance width count = unsigned_abs (int_rem_euclid count (pos (bits width)))

abbrev pub shifted_left : Width → ℤ → ℤ → ℤ
shifted_left width number count = wrap width (number *ℤ pos (2 ^ shift_distance width count))

-- the quotient by the power of two, rounded down, so that the sign stays
abbrev pub shifted_right : Width → ℤ → ℤ → ℤ
shifted_right width number count = int_div_euclid number (pos (2 ^ shift_distance width count))

-- the quotient, rounded toward zero; there is none by 0
abbrev pub quotient : Width → ℤ → ℤ → Option ℤ
quotient width a b = if int_eq b (pos 0) then None else Some (wrap width (int_div a b))

-- what that division leaves, with the sign of `a`; there is none by 0
abbrev pub remainder : ℤ → ℤ → Option ℤ
remainder a b = if int_eq b (pos 0) then None else Some (int_rem a b)
