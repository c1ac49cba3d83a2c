-- `wrap` is the number of the signed range that is equal modulo a power of two.
use Rattle.std.proofs.Common.{◌≡◌, ℕ, suc, ◌+◌, ◌*◌, ◌-◌, ◌/◌, ◌%◌, ◌^◌, ◌<◌, refl, sym, ◌∙◌, ap, arith, ℤ, pos, negsuc, ◌+ℤ◌, FitsSigned, to_z, unsigned_abs, inl, inr}
use Rattle.std.specs.Int.{Width, w8, w16, w32, w64, w128, int_wrap, cast_signed, cast_unsigned}
use Rattle.std.proofs.lemmas.Int.{int_wrap-add_right, int_wrap_fits, to_z_pos, ints}
use Rattle.std.proofs.lemmas.Nat.{pow_pos, div-add-mod'}
use Rattle.std.proofs.Math.Nat.{mod-eq_of_lt, mul-mod_left, mod-lt, add-mul, add-mul-mod_self_right}
use Rattle.std.proofs.lemmas.Bool.{cases_lt}
use Rattle.std.proofs.Math.Facts.{to_z-neg}
use mir.Val.{bits, hbits}
use Rattle.sed_value.specs.Wrap.{IsEqualModulo, low_bits}

pub twice_half : (width : Width) → 2 ^ hbits width + 2 ^ hbits width ≡ 2 ^ bits width
twice_half w8 = refl
twice_half w16 = refl
twice_half w32 = refl
twice_half w64 = refl
twice_half w128 = refl

-- a number whose absolute value is below 2 to the width's bits wraps to the number that its bits spell
pub cast-wrap : (width : Width) (number : ℤ) → unsigned_abs number < 2 ^ bits width → cast_signed width (cast_unsigned width number) ≡ int_wrap width number
unfolding int_wrap
cast-wrap width (pos n) below =
    let same : n % 2 ^ bits width ≡ n = mod-eq_of_lt below in
    ap (to_z width) (sym same)
cast-wrap width (negsuc n) below =
    let same : n % 2 ^ bits width ≡ n = mod-eq_of_lt (omega (arith, below)) in
    let bits_of : 2 ^ bits width - suc n ≡ 2 ^ bits width - 1 - n % 2 ^ bits width = omega (arith, same, below) in
    ap (to_z width) bits_of

IsEqualModulo-trans : (width : Width) (a b c : ℤ) → IsEqualModulo width a b → IsEqualModulo width b c → IsEqualModulo width a c
IsEqualModulo-trans width a b c (j, k, first) (l, m, second) =
    (j + l, m + k, omega (arith, ints, first, second, add-mul j l (2 ^ bits width), add-mul m k (2 ^ bits width)))

-- the number that the bits of `n` spell is equal to `n`
cast_signed-equal : (width : Width) (n : ℕ) → n < 2 ^ bits width → IsEqualModulo width (cast_signed width n) (pos n)
cast_signed-equal width n below = elim (cases_lt n (2 ^ hbits width)) [
  | inl low ↦ (0, 0, ap (λ (z : ℤ). z +ℤ pos (0 * 2 ^ bits width)) (to_z_pos width n low))
  | inr high ↦
      let mag : 2 ^ bits width - suc n < 2 ^ hbits width = omega (arith, twice_half width, high, below) in
      let back : 2 ^ bits width - suc (2 ^ bits width - suc n) ≡ n = omega (arith, below) in
      let is : cast_signed width n ≡ negsuc (2 ^ bits width - suc n) = ap (to_z width) (sym back) ∙ to_z-neg width (2 ^ bits width - suc n) mag in
      (1, 0, ap (λ (z : ℤ). z +ℤ pos (1 * 2 ^ bits width)) is ∙ omega (arith, ints, below))
]

-- a number is equal to the natural number that its low bits are
pub low_bits-equal : (width : Width) (number : ℤ) → IsEqualModulo width (pos (low_bits width number)) number
low_bits-equal width (pos n) =
    (n / 2 ^ bits width, 0, omega (arith, ints, div-add-mod' n (2 ^ bits width)))
low_bits-equal width (negsuc n) =
    (0, n / 2 ^ bits width + 1, omega (arith, ints, div-add-mod' n (2 ^ bits width), add-mul (n / 2 ^ bits width) 1 (2 ^ bits width), mod-lt n (pow_pos (bits width))))

pub low_bits-below : (width : Width) (number : ℤ) → low_bits width number < 2 ^ bits width
low_bits-below width (pos n) = mod-lt n (pow_pos (bits width))
low_bits-below width (negsuc n) = omega (arith, pow_pos (bits width))

pub cast_signed-low_bits : (width : Width) (number : ℤ) → cast_signed width (low_bits width number) ≡ int_wrap width number
unfolding int_wrap
cast_signed-low_bits width number = refl

pub wrap-equal : (width : Width) (number : ℤ) → IsEqualModulo width (int_wrap width number) number
unfolding int_wrap
wrap-equal width number =
    IsEqualModulo-trans width (cast_signed width (low_bits width number)) (pos (low_bits width number)) number
    (cast_signed-equal width (low_bits width number) (low_bits-below width number))
    (low_bits-equal width number)

wrap-multiple : (width : Width) (k : ℕ) → int_wrap width (pos (k * 2 ^ bits width)) ≡ pos 0
unfolding int_wrap
wrap-multiple width k = ap (to_z width) (mul-mod_left k (2 ^ bits width)) ∙ to_z_pos width 0 (pow_pos (hbits width))

wrap-add_multiple : (width : Width) (number : ℤ) (k : ℕ) → int_wrap width (number +ℤ pos (k * 2 ^ bits width)) ≡ int_wrap width number
wrap-add_multiple width number k =
    sym (int_wrap-add_right width number (pos (k * 2 ^ bits width)))
    ∙ ap (λ (n : ℤ). int_wrap width (number +ℤ n)) (wrap-multiple width k)
    ∙ ap (int_wrap width) (omega (arith, ints))

pub wrap-only : (width : Width) (number other : ℤ) → FitsSigned width other → IsEqualModulo width other number → other ≡ int_wrap width number
wrap-only width number other fits (j, k, equal) =
    sym (int_wrap_fits width other fits)
    ∙ sym (wrap-add_multiple width other j)
    ∙ ap (int_wrap width) equal
    ∙ wrap-add_multiple width number k

-- two numbers below 2 to the width's bits that are equal modulo it are the same
low-only : (width : Width) (low other : ℕ) → low < 2 ^ bits width → other < 2 ^ bits width
    → IsEqualModulo width (pos other) (pos low) → other ≡ low
low-only width low other below other_below (j, k, equal) =
    let same : other + j * 2 ^ bits width ≡ low + k * 2 ^ bits width = omega (arith, ints, equal) in
    sym (add-mul-mod_self_right other j (2 ^ bits width) ∙ mod-eq_of_lt other_below)
    ∙ ap (λ (n : ℕ). n % 2 ^ bits width) same
    ∙ add-mul-mod_self_right low k (2 ^ bits width)
    ∙ mod-eq_of_lt below

IsEqualModulo-sym : (width : Width) (a b : ℤ) → IsEqualModulo width a b → IsEqualModulo width b a
IsEqualModulo-sym width a b (j, k, equal) = (k, j, sym equal)

pub low_bits-only : (width : Width) (number : ℤ) (other : ℕ) → other < 2 ^ bits width → IsEqualModulo width (pos other) number
    → other ≡ low_bits width number
low_bits-only width number other below equal =
    low-only width (low_bits width number) other (low_bits-below width number) below
    (IsEqualModulo-trans width (pos other) number (pos (low_bits width number)) equal
    (IsEqualModulo-sym width (pos (low_bits width number)) number (low_bits-equal width number)))
