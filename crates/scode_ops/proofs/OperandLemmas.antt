-- Operands and their bytes.
use Rattle.std.proofs.Common.{◌≡◌, ℕ, zero, suc, ◌+◌, ◌<◌, ◌≤◌, ◌^◌, true, ltb, List, [], ◌∷◌, ◌++◌, length, take, drop, get_or, refl, sym, ◌∙◌, ap, ap₂, arith, ℤ, pos, negsuc, w32, w64, ltb-true, lt-ltb, drop-cons, SFits, to_z}
use Rattle.std.specs.Int.{to_be_bytes, from_be_bytes, cast_signed, cast_unsigned}
use Rattle.std.proofs.Math.Facts.{sfits_to_z, to_z-of_z, of_z-to_z}
use Rattle.std.proofs.lemmas.Bool.{and_parts, and_from}
use Rattle.std.proofs.lemmas.Nat.{from_be_bytes-to_be_bytes_2, from_be_bytes-to_be_bytes_4, from_be_bytes-to_be_bytes_8, be_bytes_2, be_bytes_4, be_bytes_8}
use Rattle.std.specs.Int.Signed.{mag}
use Rattle.sed_value.specs.Value.{is_signed}
use Rattle.scode_ops.specs.declared.operands.Form.{Form}
use Rattle.scode_ops.specs.declared.operands.Form.TheVariants as form
use Rattle.scode_ops.specs.declared.operands.Operands.{Operands}
use Rattle.scode_ops.specs.declared.operands.Operands.TheVariants.{Empty, U1, U2, U2U1, U2U2, I4, I8}
use Rattle.scode_ops.specs.Codes.{bytes_of, fits}
use Rattle.scode_ops.specs.Forms.{kind_of, width_of}
use Rattle.scode_ops.specs.Reading.{short, value_at}

pub length-bytes_of : (operands : Operands) → length (bytes_of operands) ≡ width_of (kind_of operands)
length-bytes_of Empty = refl
length-bytes_of (U1 a) = refl
length-bytes_of (U2 a) = refl
length-bytes_of (U2U1 a b) = refl
length-bytes_of (U2U2 a b) = refl
length-bytes_of (I4 a) = refl
length-bytes_of (I8 a) = refl

-- signed numbers and their bits
unsigned_4 : (number : ℤ) → is_signed w32 number ≡ true → cast_unsigned w32 number < 2 ^ 32
unsigned_4 (pos n) is = let low : n < 2 ^ 31 = ltb-true n (2 ^ 31) is in omega arith
unsigned_4 (negsuc n) is = let low : n < 2 ^ 31 = ltb-true n (2 ^ 31) is in omega arith

unsigned_8 : (number : ℤ) → is_signed w64 number ≡ true → cast_unsigned w64 number < 2 ^ 64
unsigned_8 (pos n) is = let low : n < 2 ^ 63 = ltb-true n (2 ^ 63) is in omega arith
unsigned_8 (negsuc n) is = let low : n < 2 ^ 63 = ltb-true n (2 ^ 63) is in omega arith

-- the bytes of operands are read as these
pub value_at-bytes : (operands : Operands) (rest : List ℕ) → fits operands ≡ true → value_at (kind_of operands) (bytes_of operands ++ rest) ≡ operands
value_at-bytes Empty rest fit = refl
value_at-bytes (U1 a) rest fit = refl
value_at-bytes (U2 a) rest fit = ap U2 (from_be_bytes-to_be_bytes_2 a (ltb-true a (2 ^ 16) fit))
value_at-bytes (U2U1 a b) rest fit =
    ap (λ (n : ℕ). U2U1 n b) (from_be_bytes-to_be_bytes_2 a (ltb-true a (2 ^ 16) (and_parts (ltb a (2 ^ 16)) (ltb b (2 ^ 8)) fit).0))
value_at-bytes (U2U2 a b) rest fit =
    let parts = and_parts (ltb a (2 ^ 16)) (ltb b (2 ^ 16)) fit in
    ap₂ U2U2 (from_be_bytes-to_be_bytes_2 a (ltb-true a (2 ^ 16) parts.0)) (from_be_bytes-to_be_bytes_2 b (ltb-true b (2 ^ 16) parts.1))
value_at-bytes (I4 a) rest fit =
    let signed : SFits w32 a = record { sfits = ltb-true (mag a) (2 ^ 31) fit } in
    ap I4 (ap (cast_signed w32) (from_be_bytes-to_be_bytes_4 (cast_unsigned w32 a) (unsigned_4 a fit)) ∙ to_z-of_z signed)
value_at-bytes (I8 a) rest fit =
    let signed : SFits w64 a = record { sfits = ltb-true (mag a) (2 ^ 63) fit } in
    ap I8 (ap (cast_signed w64) (from_be_bytes-to_be_bytes_8 (cast_unsigned w64 a) (unsigned_8 a fit)) ∙ to_z-of_z signed)

-- the first bytes, one by one
abbrev first_from : List ℕ → ℕ → ℕ → List ℕ
first_from bytes place zero = []
first_from bytes place (suc count) = get_or bytes place 0 ∷ first_from bytes (suc place) count

take-first_from : (bytes : List ℕ) (count place : ℕ) → place + count ≤ length bytes → take count (drop place bytes) ≡ first_from bytes place count
take-first_from bytes zero place within = refl
take-first_from bytes (suc count) place within =
    ap (take (suc count)) (drop-cons bytes place 0 (omega arith))
    ∙ ap (λ (rest : List ℕ). get_or bytes place 0 ∷ rest) (take-first_from bytes count (suc place) (omega arith))

-- all are bytes
abbrev pub AreBytes : List ℕ → Type 0
AreBytes bytes = (place : ℕ) → get_or bytes place 0 < 256

first_from-bytes : (bytes : List ℕ) (count place : ℕ) → AreBytes bytes → AreBytes (first_from bytes place count)
first_from-bytes bytes zero place are at = omega arith
first_from-bytes bytes (suc count) place are zero = are place
first_from-bytes bytes (suc count) place are (suc at) = first_from-bytes bytes count (suc place) are at

-- what is read of bytes that are long enough is of the form, fits, and has these bytes
pub record Reads (which : Form) (bytes : List ℕ) : Type 0 where
  pub kind : kind_of (value_at which bytes) ≡ which
  pub fit : fits (value_at which bytes) ≡ true
  pub begins : take (width_of which) bytes ≡ bytes_of (value_at which bytes)

short-fits : (high low : ℕ) → high < 256 → low < 256 → short high low < 2 ^ 16
short-fits high low a b = omega arith

signed_4 : (n : ℕ) → n < 2 ^ 32 → is_signed w32 (cast_signed w32 n) ≡ true
signed_4 n low = let signed : SFits w32 (to_z w32 n) = sfits_to_z (record { fits = low }) in lt-ltb (mag (to_z w32 n)) (2 ^ 31) signed.sfits

signed_8 : (n : ℕ) → n < 2 ^ 64 → is_signed w64 (cast_signed w64 n) ≡ true
signed_8 n low = let signed : SFits w64 (to_z w64 n) = sfits_to_z (record { fits = low }) in lt-ltb (mag (to_z w64 n)) (2 ^ 63) signed.sfits

pub reads : (which : Form) (bytes : List ℕ) → AreBytes bytes → width_of which ≤ length bytes → Reads which bytes
reads form.Empty bytes are within = record { kind = refl; fit = refl; begins = take-first_from bytes 0 0 (omega arith) }
reads form.U1 bytes are within = record { kind = refl; fit = lt-ltb (get_or bytes 0 0) (2 ^ 8) (are 0); begins = take-first_from bytes 1 0 (omega arith) }
reads form.U2 bytes are within = record {
  kind = refl;
  fit = lt-ltb (short (get_or bytes 0 0) (get_or bytes 1 0)) (2 ^ 16) (short-fits (get_or bytes 0 0) (get_or bytes 1 0) (are 0) (are 1));
  begins = take-first_from bytes 2 0 (omega arith) ∙ sym (be_bytes_2 (first_from bytes 0 2) (short (get_or bytes 0 0) (get_or bytes 1 0)) refl (first_from-bytes bytes 2 0 are) refl);
}
reads form.U2U1 bytes are within = record {
  kind = refl;
  fit = and_from (ltb (short (get_or bytes 0 0) (get_or bytes 1 0)) (2 ^ 16)) (ltb (get_or bytes 2 0) (2 ^ 8))
      (lt-ltb (short (get_or bytes 0 0) (get_or bytes 1 0)) (2 ^ 16) (short-fits (get_or bytes 0 0) (get_or bytes 1 0) (are 0) (are 1)))
      (lt-ltb (get_or bytes 2 0) (2 ^ 8) (are 2));
  begins = take-first_from bytes 3 0 (omega arith)
      ∙ ap (λ (front : List ℕ). front ++ get_or bytes 2 0 ∷ []) (sym (be_bytes_2 (first_from bytes 0 2) (short (get_or bytes 0 0) (get_or bytes 1 0)) refl (first_from-bytes bytes 2 0 are) refl));
}
reads form.U2U2 bytes are within = record {
  kind = refl;
  fit = and_from (ltb (short (get_or bytes 0 0) (get_or bytes 1 0)) (2 ^ 16)) (ltb (short (get_or bytes 2 0) (get_or bytes 3 0)) (2 ^ 16))
      (lt-ltb (short (get_or bytes 0 0) (get_or bytes 1 0)) (2 ^ 16) (short-fits (get_or bytes 0 0) (get_or bytes 1 0) (are 0) (are 1)))
      (lt-ltb (short (get_or bytes 2 0) (get_or bytes 3 0)) (2 ^ 16) (short-fits (get_or bytes 2 0) (get_or bytes 3 0) (are 2) (are 3)));
  begins = take-first_from bytes 4 0 (omega arith)
      ∙ ap₂ (λ (front back : List ℕ). front ++ back)
      (sym (be_bytes_2 (first_from bytes 0 2) (short (get_or bytes 0 0) (get_or bytes 1 0)) refl (first_from-bytes bytes 2 0 are) refl))
      (sym (be_bytes_2 (first_from bytes 2 2) (short (get_or bytes 2 0) (get_or bytes 3 0)) refl (first_from-bytes bytes 2 2 are) refl));
}
reads form.I4 bytes are within =
    let number : ℕ = from_be_bytes w32 (first_from bytes 0 4) in
    let low : number < 2 ^ 32 = let a : get_or bytes 0 0 < 256 = are 0 in let b : get_or bytes 1 0 < 256 = are 1 in let c : get_or bytes 2 0 < 256 = are 2 in let d : get_or bytes 3 0 < 256 = are 3 in omega arith in
    record {
      kind = refl;
      fit = signed_4 number low;
      begins = take-first_from bytes 4 0 (omega arith)
          ∙ sym (ap (to_be_bytes w32) (of_z-to_z {w = w32} {n = number} (record { fits = low })) ∙ be_bytes_4 (first_from bytes 0 4) number refl (first_from-bytes bytes 4 0 are) refl);
    }
reads form.I8 bytes are within =
    let number : ℕ = from_be_bytes w64 (first_from bytes 0 8) in
    let low : number < 2 ^ 64 =
    let a : get_or bytes 0 0 < 256 = are 0 in let b : get_or bytes 1 0 < 256 = are 1 in let c : get_or bytes 2 0 < 256 = are 2 in let d : get_or bytes 3 0 < 256 = are 3 in
    let e : get_or bytes 4 0 < 256 = are 4 in let f : get_or bytes 5 0 < 256 = are 5 in let g : get_or bytes 6 0 < 256 = are 6 in let h : get_or bytes 7 0 < 256 = are 7 in omega arith in
    record {
      kind = refl;
      fit = signed_8 number low;
      begins = take-first_from bytes 8 0 (omega arith)
          ∙ sym (ap (to_be_bytes w64) (of_z-to_z {w = w64} {n = number} (record { fits = low })) ∙ be_bytes_8 (first_from bytes 0 8) number refl (first_from-bytes bytes 8 0 are) refl);
    }
