-- Numbers in bytes, by the definitions of the kit's crate for them.
use Rattle.std.proofs.Common.{◌≡◌, ℕ, zero, suc, ◌^◌, ◌<◌, ◌/◌, ℤ, IsTrue, List, [], ◌∷◌, length, slice_index, FitsSigned, refl, sym, ◌∙◌, ap, arith}
use Rattle.std.proofs.Math.Nat.{mod-lt}
use Rattle.std.proofs.lemmas.Int.{of_z-to_z}
use Rattle.std.proofs.Math.Facts.{Fits-of_z, Fits-of_lt, sfits_to_z}
use Rattle.std.proofs.lemmas.Bool.Decides.{nat_tests}
use Rattle.std.specs.List.{list_all}
use Rattle.std.specs.Int.{Width, w8, w16, w32, w64, w128, byte_at, byte_len, bytes_high_first, cast_signed, cast_unsigned}
use mir.Val.{bits}
use Rattle.byteorder.specs.Endian.{big_from}
use Rattle.byteorder.specs.Numbers.{big_from-cons, big_from-lt, big_number-reads_back, length-bytes_high_first}
use Rattle.sed_wire.specs.Number.{is_byte, number_of, SpellsNumber, SpellsSigned}
use Rattle.std.proofs.lemmas.List.{append-nil}

-- what holds of each item by its place holds of all
pub are_bytes-each : (bytes : List ℕ) → ((i : ℕ) → slice_index bytes i < 256) → IsTrue (list_all is_byte bytes)
are_bytes-each [] below = refl
are_bytes-each (byte ∷ behind) below =
    let first : byte < 256 = below 0 in
    let rest = are_bytes-each behind (λ i. below (suc i)) in
    grind (arith, nat_tests)

-- the library's number of so many bytes is the sum of their worths
pub big_from-all : (n : ℕ) (bytes : List ℕ) → length bytes ≡ n → big_from 0 n bytes ≡ number_of bytes
big_from-all zero [] as_many = refl
big_from-all zero (byte ∷ behind) as_many = absurd (omega arith)
big_from-all (suc n) [] as_many = absurd (omega arith)
big_from-all (suc n) (byte ∷ behind) as_many =
    let behind_as_many : length behind ≡ n = omega arith in
    let moved = big_from-cons 0 n byte behind in
    let rest = big_from-all n behind behind_as_many in
    cc

-- each byte of a number is below 256
pub byte_at-below : (k x : ℕ) → byte_at k x < 256
byte_at-below zero x = mod-lt x (omega arith)
byte_at-below (suc k) x = mod-lt (x / 256 ^ suc k) (omega arith)

pub are_bytes-high_first : (n x : ℕ) → IsTrue (list_all is_byte (bytes_high_first n x))
are_bytes-high_first zero x = refl
are_bytes-high_first (suc n) x =
    let first = byte_at-below n x in
    let rest = are_bytes-high_first n x in
    grind (arith, nat_tests)

-- what the library reads is spelled by the bytes that it reads
pub read_spells : (n : ℕ) (bytes : List ℕ) → length bytes ≡ n → ((i : ℕ) → slice_index bytes i < 256)
    → SpellsNumber n (big_from 0 n bytes) bytes
read_spells n bytes as_many below = record {
  as_many = as_many;
  are_bytes = are_bytes-each bytes below;
  is_number = sym (big_from-all n bytes as_many);
}

-- what the library writes spells the number
pub written_spells : (n number : ℕ) → number < 256 ^ n → SpellsNumber n number (bytes_high_first n number)
written_spells n number below =
    let as_many = length-bytes_high_first n number in
    let all = big_from-all n (bytes_high_first n number) as_many in
    let back = big_number-reads_back n number [] below in
    let same = append-nil (bytes_high_first n number) in
    record {
      as_many = as_many;
      are_bytes = are_bytes-high_first n number;
      is_number = sym all ∙ ap (big_from 0 n) (sym same) ∙ back;
    }

pow_byte_len : (width : Width) → 256 ^ byte_len width ≡ 2 ^ bits width
pow_byte_len w8 = refl
pow_byte_len w16 = refl
pow_byte_len w32 = refl
pow_byte_len w64 = refl
pow_byte_len w128 = refl

-- the same of signed numbers
pub read_spells_signed : (width : Width) (bytes : List ℕ) → length bytes ≡ byte_len width
    → ((i : ℕ) → slice_index bytes i < 256)
    → SpellsSigned width (cast_signed width (big_from 0 (byte_len width) bytes)) bytes
read_spells_signed width bytes as_many below =
    let spells = read_spells (byte_len width) bytes as_many below in
    let bound = big_from-lt 0 (byte_len width) bytes below in
    let fits : big_from 0 (byte_len width) bytes < 2 ^ bits width = rw (← pow_byte_len width) bound in
    let back = of_z-to_z width (big_from 0 (byte_len width) bytes) fits in
    record {
      fits = sfits_to_z (Fits-of_lt fits);
      complement = rw back spells;
    }

pub written_spells_signed : (width : Width) (number : ℤ) → FitsSigned width number
    → SpellsSigned width number (bytes_high_first (byte_len width) (cast_unsigned width number))
written_spells_signed width number fits =
    let bound : cast_unsigned width number < 2 ^ bits width = (Fits-of_z fits).fits in
    record {
      fits = fits;
      complement = written_spells (byte_len width) (cast_unsigned width number) (rw (pow_byte_len width) bound);
    }
