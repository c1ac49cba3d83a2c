-- The names of kits, classes and slots are characters of ASCII.
use Rattle.std.proofs.Common.{ℕ, ◌==◌, Bool, List, [], ◌∷◌, refl, arith}
use Rattle.std.specs.Prelude.{◌||◌, IsTrue, nat_le, length}
use Rattle.std.specs.List.{list_all}
use Rattle.std.proofs.lemmas.Bool.{and_from, and_parts}
use Rattle.std.proofs.lemmas.Bool.Decides.{nat_tests}
use Rattle.sed_value.specs.Characters.{is_letter, is_letter_or_digit, is_word_byte}
use Rattle.sed_value.specs.Names.{is_first_then, is_identifier, is_kit_name, is_word}
use Rattle.sed_wire.specs.Text.{is_character, is_text}

letter_of : (byte : ℕ) → IsTrue (is_letter byte) → IsTrue (is_character byte)
letter_of byte is = grind (arith, nat_tests)

letter_or_digit_of : (byte : ℕ) → IsTrue (is_letter_or_digit byte) → IsTrue (is_character byte)
letter_or_digit_of byte is = grind (arith, nat_tests)

word_of : (byte : ℕ) → IsTrue (is_word_byte byte) → IsTrue (is_character byte)
word_of byte is = grind (arith, nat_tests)

start_of : (byte : ℕ) → IsTrue (is_letter byte || (byte == 95)) → IsTrue (is_character byte)
start_of byte is = grind (arith, nat_tests)

each_of : (p : ℕ → Bool) → ((byte : ℕ) → IsTrue (p byte) → IsTrue (is_character byte)) → (bytes : List ℕ) → IsTrue (list_all p bytes) → IsTrue (is_text bytes)
each_of p f [] all = refl
each_of p f (byte ∷ behind) all =
    let parts = and_parts (p byte) (list_all p behind) all in
    and_from (is_character byte) (is_text behind) (f byte parts.0) (each_of p f behind parts.1)

module _ (first later : ℕ → Bool) (f : (byte : ℕ) → IsTrue (first byte) → IsTrue (is_character byte)) (g : (byte : ℕ) → IsTrue (later byte) → IsTrue (is_character byte)) where
  first_then : (bytes : List ℕ) → IsTrue (is_first_then first later bytes) → IsTrue (is_text bytes)
  first_then [] is = let never : ⊥ = cc in absurd never
  first_then (byte ∷ behind) is =
      let parts = and_parts (first byte) (list_all later behind) is in
      and_from (is_character byte) (is_text behind) (f byte parts.0) (each_of later g behind parts.1)

pub kit_name_is_text : (name : List ℕ) → IsTrue (is_kit_name name) → IsTrue (is_text name)
kit_name_is_text name is =
    first_then is_letter is_letter_or_digit letter_of letter_or_digit_of name
    (and_parts (is_first_then is_letter is_letter_or_digit name) (nat_le (length name) 24) is).0

pub word_is_text : (name : List ℕ) → IsTrue (is_word name) → IsTrue (is_text name)
word_is_text name is =
    first_then (λ byte. is_letter byte || (byte == 95)) is_word_byte start_of word_of name
    (and_parts (is_identifier name) (nat_le (length name) 31) is).0
