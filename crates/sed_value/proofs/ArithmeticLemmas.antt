-- What the machine's shifts and divisions give, for either width.
use Rattle.std.proofs.Common.{◌≡◌, ℕ, zero, suc, ◌/◌, ◌^◌, ◌<◌, ◌≤◌, refl, ◌∙◌, ap, arith, ℤ, pos, negsuc, ◌*ℤ◌, neg_ℤ, FitsSigned, to_z, of_z, unsigned_abs, int_div}
use Rattle.std.specs.Int.{Width, int_wrap, int_shl, int_shr, int_div_euclid, int_wrapping_div}
use Rattle.std.proofs.lemmas.Int.{to_z-of_z, wrapping_mul-bits, int_wrap-mul_right, ints}
use Rattle.std.proofs.Math.Pow.{pow-lt}
use Rattle.std.proofs.Math.Nat.{div-le_self}
use Rattle.std.proofs.Math.Facts.{Fits-of_z, Fits-lt-pow}
use mir.Val.{bits}
use Rattle.sed_value.proofs.WrapLemmas.{twice_half, cast-wrap}

pub int_shl-wrap : (width : Width) (number : ℤ) (distance : ℕ) → FitsSigned width number → distance < bits width → int_shl width number distance ≡ int_wrap width (number *ℤ pos (2 ^ distance))
int_shl-wrap width number distance fits below =
    let power : 2 ^ distance < 2 ^ bits width = pow-lt below in
    wrapping_mul-bits width (of_z width number) (2 ^ distance) (Fits-lt-pow (Fits-of_z fits)) power
    ∙ ap (λ (n : ℤ). int_wrap width (n *ℤ to_z width (2 ^ distance))) (to_z-of_z width number fits)
    ∙ ap (λ (n : ℤ). int_wrap width (number *ℤ n)) (cast-wrap width (pos (2 ^ distance)) power)
    ∙ int_wrap-mul_right width number (pos (2 ^ distance))

pub int_shr-floor : (number : ℤ) (distance : ℕ) → int_shr number distance ≡ int_div_euclid number (pos (2 ^ distance))
int_shr-floor (pos n) distance = refl
int_shr-floor (negsuc n) distance = refl

unsigned_abs-neg : (number : ℤ) → unsigned_abs (neg_ℤ number) ≡ unsigned_abs number
unsigned_abs-neg (pos zero) = refl
unsigned_abs-neg (pos (suc n)) = refl
unsigned_abs-neg (negsuc n) = refl

unsigned_abs-int_div : (a b : ℤ) → unsigned_abs (int_div a b) ≤ unsigned_abs a
unsigned_abs-int_div (pos a) (pos b) = div-le_self a b
unsigned_abs-int_div (pos a) (negsuc b) = omega (arith, unsigned_abs-neg (pos (a / suc b)), div-le_self a (suc b))
unsigned_abs-int_div (negsuc a) (pos b) = omega (arith, unsigned_abs-neg (pos (suc a / b)), div-le_self (suc a) b)
unsigned_abs-int_div (negsuc a) (negsuc b) = div-le_self (suc a) (suc b)

-- a number of the signed range is below 2 to the width's bits
unsigned_abs-below : (width : Width) (number : ℤ) → FitsSigned width number → unsigned_abs number < 2 ^ bits width
unsigned_abs-below width (pos n) fits = omega (arith, fits.sfits, twice_half width)
unsigned_abs-below width (negsuc n) fits = omega (arith, fits.sfits, twice_half width)

pub int_wrapping_div-wrap : (width : Width) (a b : ℤ) → FitsSigned width a → int_wrapping_div width a b ≡ int_wrap width (int_div a b)
int_wrapping_div-wrap width a b fits =
    cast-wrap width (int_div a b) (omega (arith, unsigned_abs-int_div a b, unsigned_abs-below width a fits))

pub ruleset shifts = (int_shl-wrap, int_shr-floor, to_z-of_z)

pub ruleset divisions = (int_wrapping_div-wrap, to_z-of_z)
