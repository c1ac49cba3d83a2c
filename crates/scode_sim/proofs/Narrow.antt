-- The low bits of a long are those of its low 32 bits.
use Rattle.std.proofs.Common.{◌≡◌, ℕ, ◌+◌, ◌*◌, sym, arith, ℤ, pos, ◌+ℤ◌}
use Rattle.std.specs.Int.{w8, w16, w32}
use Rattle.std.proofs.lemmas.Int.{ints}
use Rattle.sed_value.specs.Wrap.{low_bits, wrap, IsEqualModulo}
use Rattle.sed_value.proofs.WrapLemmas.{low_bits-only, low_bits-below, low_bits-equal, wrap-equal}

low_of : (low a b j k : ℕ) (m n : ℤ) → pos low +ℤ pos (a * 256) ≡ m +ℤ pos (b * 256) → n +ℤ pos (j * 4294967296) ≡ m +ℤ pos (k * 4294967296) →
    pos low +ℤ pos ((a + k * 16777216) * 256) ≡ n +ℤ pos ((b + j * 16777216) * 256)
low_of low a b j k m n e f = omega (arith, ints, e, f)

pub low_byte_of_int : (m : ℤ) → low_bits w8 (wrap w32 m) ≡ low_bits w8 m
low_byte_of_int m =
    let e : IsEqualModulo w8 (pos (low_bits w8 m)) m = low_bits-equal w8 m in
    let f : IsEqualModulo w32 (wrap w32 m) m = wrap-equal w32 m in
    sym (low_bits-only w8 (wrap w32 m) (low_bits w8 m) (low_bits-below w8 m)
    (e.0 + f.1 * 16777216, e.1 + f.0 * 16777216, low_of (low_bits w8 m) e.0 e.1 f.0 f.1 m (wrap w32 m) e.2 f.2))

short_of : (low a b j k : ℕ) (m n : ℤ) → pos low +ℤ pos (a * 65536) ≡ m +ℤ pos (b * 65536) → n +ℤ pos (j * 4294967296) ≡ m +ℤ pos (k * 4294967296) →
    pos low +ℤ pos ((a + k * 65536) * 65536) ≡ n +ℤ pos ((b + j * 65536) * 65536)
short_of low a b j k m n e f = omega (arith, ints, e, f)

pub low_short_of_int : (m : ℤ) → low_bits w16 (wrap w32 m) ≡ low_bits w16 m
low_short_of_int m =
    let e : IsEqualModulo w16 (pos (low_bits w16 m)) m = low_bits-equal w16 m in
    let f : IsEqualModulo w32 (wrap w32 m) m = wrap-equal w32 m in
    sym (low_bits-only w16 (wrap w32 m) (low_bits w16 m) (low_bits-below w16 m)
    (e.0 + f.1 * 65536, e.1 + f.0 * 65536, short_of (low_bits w16 m) e.0 e.1 f.0 f.1 m (wrap w32 m) e.2 f.2))
