-- What the operators compute of whole numbers of a width is of that width.
use Rattle.std.proofs.Common.{◌≡◌, ◌<◌, ◌≤◌, ◌^◌, ℕ, Bool, true, false, if◌then◌else◌, Some, None, Result, Ok, Err, arith, ℤ, pos, negsuc, int_rem, int_div, FitsSigned}
use Rattle.std.specs.Prelude.{nat_lt}
use Rattle.std.specs.Int.{Width as Bits, w8, w16, w32, w64, int_div_euclid, int_bit_not, cast_unsigned}
use Rattle.std.specs.Int.Signed.{mag, mag_rem}
use Rattle.std.specs.Ordering.{int_eq}
use Rattle.std.proofs.lemmas.Bool.{ltb-true, lt-ltb}
use Rattle.std.proofs.lemmas.Int.{SFits-int_wrap}
use Rattle.std.proofs.lemmas.Nat.{pow_pos}
use Rattle.std.proofs.Math.Facts.{sfits_to_z, Fits-and, Fits-or, Fits-xor, Fits-of_z}
use Rattle.std.proofs.Math.Nat.{div-le_self, mod-lt}
use mir.Val.{bits, hbits, SFits, Fits}
use mir.ValLaws.{Fits-not}
use Rattle.sed_value.specs.Value.{is_signed}
use Rattle.sed_value.specs.Wrap.{wrap, low_bits}
use Rattle.sed_value.specs.Arithmetic.{shift_distance, shifted_right}
use Rattle.sed_typed.specs.declared.operators.Arithmetic.{Arithmetic}
use Rattle.sed_typed.specs.declared.operators.Arithmetic.TheVariants as arithmetic
use Rattle.sed_engine.specs.Stops.{Stop, Traps, Untyped}
use Rattle.sed_engine.specs.Operators.{divided, computed}

-- a result that a typed program may come to
abbrev pub Sound : {A : Type 0} → (A → Type 0) → Result A Stop → Type 0
Sound P (Ok v) = P v
Sound P (Err (Traps trap)) = Unit {0}
Sound P (Err Untyped) = ⊥

pub signed_of : (w : Bits) (n : ℤ) → FitsSigned w n → is_signed w n ≡ true
signed_of w n fits = lt-ltb (mag n) (2 ^ hbits w) fits.sfits

pub fits_of : (w : Bits) (n : ℤ) → is_signed w n ≡ true → FitsSigned w n
fits_of w n h = record { sfits = ltb-true (mag n) (2 ^ hbits w) h }

pub wrapped : (w : Bits) (n : ℤ) → is_signed w (wrap w n) ≡ true
wrapped w n = signed_of w (wrap w n) (SFits-int_wrap w n)

of_bits : (w : Bits) (n : ℕ) → Fits w n → is_signed w (mir.Val.to_z w n) ≡ true
of_bits w n fits = signed_of w _ (sfits_to_z fits)

less : (w : Bits) (m n : ℤ) → mag m ≤ mag n → is_signed w n ≡ true → is_signed w m ≡ true
less w m n h fits = lt-ltb (mag m) (2 ^ hbits w) (omega (arith, h, (fits_of w n fits).sfits))

halved : (number : ℤ) (d : ℕ) → mag (int_div_euclid number (pos d)) ≤ mag number
halved (pos n) d = div-le_self n d
halved (negsuc n) d = div-le_self n d

quotient_is : (w : Bits) (b : Bool) (n : ℤ) → Sound (λ m. is_signed w m ≡ true) (divided (if b then None else Some (wrap w n)))
quotient_is w true n = tt
quotient_is w false n = wrapped w n

remainder_is : (w : Bits) (b : Bool) (n : ℤ) → is_signed w n ≡ true → Sound (λ m. is_signed w m ≡ true) (divided (if b then None else Some n))
remainder_is w true n h = tt
remainder_is w false n h = h

-- the right operand of all but shifts is of the width too
abbrev pub IsRight : Arithmetic → Bits → ℤ → Type 0
IsRight arithmetic.ShiftLeft w b = Unit {0}
IsRight arithmetic.ShiftRight w b = Unit {0}
IsRight op w b = is_signed w b ≡ true

pub computed_is : (op : Arithmetic) (w : Bits) (a b : ℤ) → is_signed w a ≡ true → IsRight op w b → Sound (λ m. is_signed w m ≡ true) (computed op w a b)
computed_is arithmetic.Add w a b h k = wrapped w _
computed_is arithmetic.Subtract w a b h k = wrapped w _
computed_is arithmetic.Multiply w a b h k = wrapped w _
computed_is arithmetic.Divide w a b h k = quotient_is w (int_eq b (pos 0)) (int_div a b)
computed_is arithmetic.Remainder w a b h k = remainder_is w (int_eq b (pos 0)) (int_rem a b) (less w (int_rem a b) a (mag_rem a b) h)
computed_is arithmetic.BitAnd w a b h k = of_bits w _ (Fits-and (cast_unsigned w b) (Fits-of_z (fits_of w a h)))
computed_is arithmetic.BitOr w a b h k = of_bits w _ (Fits-or (Fits-of_z (fits_of w a h)) (Fits-of_z (fits_of w b k)))
computed_is arithmetic.BitXor w a b h k = of_bits w _ (Fits-xor (Fits-of_z (fits_of w a h)) (Fits-of_z (fits_of w b k)))
computed_is arithmetic.ShiftLeft w a b h k = wrapped w _
computed_is arithmetic.ShiftRight w a b h k = less w (shifted_right w a b) a (halved a (2 ^ shift_distance w b)) h

pub flipped : (w : Bits) (a : ℤ) → is_signed w (int_bit_not w a) ≡ true
flipped w a = of_bits w _ (Fits-not w (cast_unsigned w a))

-- the low bits of a number are of their width, and so is a small number of each
low_below : (w : Bits) (number : ℤ) → low_bits w number < 2 ^ bits w
low_below w (pos n) = mod-lt n (pow_pos (bits w))
low_below w (negsuc n) = omega (arith, pow_pos (bits w))

pub low_byte : (n : ℤ) → nat_lt (low_bits w8 n) (2 ^ 8) ≡ true
low_byte n = lt-ltb (low_bits w8 n) (2 ^ 8) (low_below w8 n)

pub low_short : (n : ℤ) → nat_lt (low_bits w16 n) (2 ^ 16) ≡ true
low_short n = lt-ltb (low_bits w16 n) (2 ^ 16) (low_below w16 n)

pub small : (n : ℕ) → n < 2 ^ 31 → is_signed w32 (pos n) ≡ true
small n h = lt-ltb n (2 ^ 31) h

pub small_short : (n : ℕ) → nat_lt n (2 ^ 16) ≡ true → is_signed w32 (pos n) ≡ true
small_short n h = small n (let below : n < 2 ^ 16 = ltb-true n (2 ^ 16) h in omega (arith, below))

pub small_byte : (n : ℕ) → nat_lt n (2 ^ 8) ≡ true → is_signed w32 (pos n) ≡ true
small_byte n h = small n (let below : n < 2 ^ 8 = ltb-true n (2 ^ 8) h in omega (arith, below))

pub long_of_int : (n : ℤ) → is_signed w32 n ≡ true → is_signed w64 n ≡ true
long_of_int n h = lt-ltb (mag n) (2 ^ 63) (let below : mag n < 2 ^ 31 = ltb-true (mag n) (2 ^ 31) h in omega (arith, below))
