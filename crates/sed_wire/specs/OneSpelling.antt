-- A number of a width, signed or not, has one spelling at most, and so has a text.
use Rattle.std.specs.Prelude.{◌≡◌, ℕ, ◌+◌, ◌*◌, ◌^◌, ◌<◌, ◌≤◌, ◌/◌, IsTrue, List, [], ◌∷◌, length, refl}
use Rattle.std.proofs.Common.{sym, ◌∙◌, ap, arith}
use Rattle.std.proofs.Math.Nat.{mul-le-mul_right, pow-succ'}
use Rattle.std.proofs.lemmas.Nat.{div-mul-add}
use Rattle.std.proofs.lemmas.Bool.Decides.{nat_tests}
use Rattle.std.specs.List.{list_all}
use Rattle.std.specs.Int.{Width, byte_len, cast_unsigned}
use Rattle.sed_wire.specs.Number.{is_byte, number_of, SpellsNumber, SpellsSigned}
use Rattle.sed_wire.specs.Reading.{HasOneSpelling}
use Rattle.sed_wire.specs.Text.{SpellsText}

-- a byte in front of a number is known from the whole
same_parts : (m x y r s : ℕ) → r < m → s < m → x * m + r ≡ y * m + s → (x ≡ y) × (r ≡ s)
same_parts m x y r s r_below s_below e =
    let first : x ≡ y = sym (div-mul-add x m r r_below) ∙ ap (λ (n : ℕ). n / m) e ∙ div-mul-add y m s s_below in
    let scaled : x * m ≡ y * m = ap (λ (n : ℕ). n * m) first in
    (first, omega (arith, scaled, e))

pub number_of-below : (bytes : List ℕ) → IsTrue (list_all is_byte bytes) → number_of bytes < 256 ^ length bytes
number_of-below [] all = omega arith
number_of-below (byte ∷ behind) all =
    let first : byte < 256 = grind (arith, nat_tests) in
    let others : IsTrue (list_all is_byte behind) = grind (arith, nat_tests) in
    let rest = number_of-below behind others in
    let top : byte * 256 ^ length behind ≤ 255 * 256 ^ length behind = mul-le-mul_right (256 ^ length behind)
    (omega arith) in
    rw (pow-succ' 256 (length behind)) (omega arith)

-- so many bytes are known from their number
pub same_number : (a b : List ℕ) → length a ≡ length b → IsTrue (list_all is_byte a) → IsTrue (list_all is_byte b)
    → number_of a ≡ number_of b → a ≡ b
same_number [] [] long all_a all_b e = refl
same_number [] (y ∷ ys) long all_a all_b e = absurd (omega arith)
same_number (x ∷ xs) [] long all_a all_b e = absurd (omega arith)
same_number (x ∷ xs) (y ∷ ys) long all_a all_b e =
    let behind : length xs ≡ length ys = omega arith in
    let bytes_x : IsTrue (list_all is_byte xs) = grind (arith, nat_tests) in
    let bytes_y : IsTrue (list_all is_byte ys) = grind (arith, nat_tests) in
    let below_x = number_of-below xs bytes_x in
    let below_y = number_of-below ys bytes_y in
    let below : number_of ys < 256 ^ length xs = rw behind below_y in
    let worths : x * 256 ^ length xs + number_of xs ≡ y * 256 ^ length xs + number_of ys =
    e ∙ ap (λ (n : ℕ). y * 256 ^ n + number_of ys) (sym behind) in
    let parts = same_parts (256 ^ length xs) x y (number_of xs) (number_of ys) below_x below worths in
    let rest = same_number xs ys behind bytes_x bytes_y parts.1 in
    let first = parts.0 in
    cc

pub one_number : (width : ℕ) → HasOneSpelling (SpellsNumber width)
one_number width number a b of_a of_b =
    same_number a b (of_a.as_many ∙ sym of_b.as_many) of_a.are_bytes of_b.are_bytes (of_a.is_number
    ∙ sym of_b.is_number)

pub one_signed : (width : Width) → HasOneSpelling (SpellsSigned width)
one_signed width number a b of_a of_b =
    one_number (byte_len width) (cast_unsigned width number) a b of_a.complement of_b.complement

pub one_text : HasOneSpelling SpellsText
one_text text a b of_a of_b = of_a.ended ∙ sym of_b.ended
