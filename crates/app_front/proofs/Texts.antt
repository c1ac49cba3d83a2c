-- Forms of bytes whose things have one text each.
use Rattle.std.proofs.Common.{◌≡◌, ℕ, zero, suc, ℤ, ◌<◌, ◌^◌, Bool, IsTrue, List, [], ◌∷◌, ◌++◌, length, FitsSigned, refl, sym, ◌∙◌, ap, ap₂, subst, arith}
use Rattle.std.specs.List.{AllByRecursion, flat_map, list_all}
use Rattle.std.specs.Int.{w32, bytes_high_first, cast_unsigned}
use Rattle.std.proofs.lemmas.Bool.Decides.{nat_tests}
use Rattle.sed_value.specs.Characters.{is_letter, is_letter_or_digit}
use Rattle.sed_value.specs.Names.{is_kit_name}
use Rattle.sed_value.specs.Value.{is_signed}
use Rattle.sed_wire.specs.Number.{SpellsNumber, SpellsSigned}
use Rattle.sed_wire.specs.Text.{SpellsText, is_character, is_text}
use Rattle.sed_wire.proofs.FrontLemmas.{number_of-below, one_number, one_signed}
use Rattle.sed_wire.proofs.NumberLemmas.{written_spells, written_spells_signed}
use Rattle.sed_wire.specs.Form.{Form}
use Rattle.sed_wire.specs.Row.{times}
use Rattle.sed_wire.specs.FormSpelling.{OnlySpells, ThenSpells}
use Rattle.comp_tree.specs.Parts.{text}

-- the things that are spelled are those that have P, and each is spelled by its text alone
pub record Texts {A : Type 0} (Spells : A → List ℕ → Type 0) (P : A → Type 0) (text_of : A → List ℕ) : Type 0 where
  pub said : (a : A) (bytes : List ℕ) → Spells a bytes → P a × (bytes ≡ text_of a)
  pub spelled : (a : A) → P a → Spells a (text_of a)

-- ---- fields

pub number_texts : (width : ℕ) → Texts (SpellsNumber width) (λ n. n < 256 ^ width) (bytes_high_first width)
number_texts width = record {
  said = λ n bytes is.
      let below = number_of-below bytes is.are_bytes in
      let same = is.is_number in
      let lt : n < 256 ^ width = omega (arith, ap (λ (k : ℕ). 256 ^ k) is.as_many, same, below) in
      (lt, one_number width n bytes (bytes_high_first width n) is (written_spells width n lt));
  spelled = λ n lt. written_spells width n lt;
}

abbrev pub sum_text : ℤ → List ℕ
sum_text checksum = bytes_high_first 4 (cast_unsigned w32 checksum)

fits_of : (z : ℤ) → IsTrue (is_signed w32 z) → FitsSigned w32 z
fits_of z is = record { sfits = grind (arith, nat_tests) }

signed_of : (z : ℤ) → FitsSigned w32 z → IsTrue (is_signed w32 z)
signed_of z fits = let range = fits.sfits in grind (arith, nat_tests)

pub signed_texts : Texts (SpellsSigned w32) (λ z. IsTrue (is_signed w32 z)) sum_text
signed_texts = record {
  said = λ z bytes is. (signed_of z is.fits, one_signed w32 z bytes (sum_text z) is (written_spells_signed w32 z is.fits));
  spelled = λ z is. written_spells_signed w32 z (fits_of z is);
}

pub text_texts : Texts SpellsText (λ t. IsTrue (is_text t)) text
text_texts = record {
  said = λ t bytes is. (is.characters, is.ended);
  spelled = λ t is. record { characters = is; ended = refl };
}

-- ---- forms that are made of others

pub only_texts : {A : Type 0} {S : A → List ℕ → Type 0} {P : A → Type 0} {f : A → List ℕ} (test : A → Bool) → Texts S P f
    → Texts (OnlySpells test S) (λ a. P a × IsTrue (test a)) f
only_texts test t = record {
  said = λ a bytes is. let one = t.said a bytes is.0 in ((one.0, is.1), one.1);
  spelled = λ a is. (t.spelled a is.0, is.1);
}

-- of two conditions that are one
pub same_texts : {A : Type 0} {S : A → List ℕ → Type 0} {P : A → Type 0} {f : A → List ℕ} (Q : A → Type 0)
    → ((a : A) → P a → Q a) → ((a : A) → Q a → P a) → Texts S P f → Texts S Q f
same_texts Q to from t = record {
  said = λ a bytes is. let one = t.said a bytes is in (to a one.0, one.1);
  spelled = λ a is. t.spelled a (from a is);
}

pub then_texts : {A B : Type 0} {S : A → List ℕ → Type 0} {P : A → Type 0} {f : A → List ℕ} {T : B → List ℕ → Type 0} {Q : B → Type 0} {h : B → List ℕ}
    → Texts S P f → Texts T Q h → Texts (ThenSpells S (λ _. T)) (λ both. P both.0 × Q both.1) (λ both. f both.0 ++ h both.1)
then_texts t u = record {
  said = λ both bytes is.
      let one = t.said both.0 is.0 is.2 in
      let other = u.said both.1 is.1 is.3 in
      ((one.0, other.0), is.4 ∙ ap₂ (λ (x y : List ℕ). x ++ y) one.1 other.1);
  spelled = λ both is. (_, _, t.spelled both.0 is.0, u.spelled both.1 is.1, refl);
}

abbrev pub AreSoMany : {A : Type 0} → (A → Type 0) → ℕ → List A → Type 0
AreSoMany P n xs = (length xs ≡ n) × AllByRecursion P xs

none_said : {A : Type 0} (P : A → Type 0) (f : A → List ℕ) (xs : List A) (bytes : List ℕ) → xs ≡ [] → bytes ≡ [] → AreSoMany P 0 xs × (bytes ≡ flat_map f xs)
none_said P f xs bytes none empty =
    ((ap length none, subst (AllByRecursion P) (sym none) tt), empty ∙ ap (flat_map f) (sym none))

module _ {A : Type 0} (item : Form A) (P : A → Type 0) (f : A → List ℕ) (t : Texts item.spells P f) where
  pub times_said : (n : ℕ) (xs : List A) (bytes : List ℕ) → (times n item).spells xs bytes → AreSoMany P n xs × (bytes ≡ flat_map f xs)
  times_said zero xs bytes is = none_said P f xs bytes is.0 is.1
  times_said (suc n) [] bytes is = absurd is
  times_said (suc n) (x ∷ xs) bytes is =
      let one = t.said x is.0 is.2 in
      let others = times_said n xs is.1 is.3 in
      ((ap suc others.0.0, (one.0, others.0.1)), is.4 ∙ ap₂ (λ (a b : List ℕ). a ++ b) one.1 others.1)

  pub times_spelled : (xs : List A) → AllByRecursion P xs → (times (length xs) item).spells xs (flat_map f xs)
  times_spelled [] each = (refl, refl)
  times_spelled (x ∷ xs) each = (_, _, t.spelled x each.0, times_spelled xs each.1, refl)

-- ---- names of kits

character_of : (byte : ℕ) → IsTrue (is_letter_or_digit byte) → IsTrue (is_character byte)
character_of byte is = grind (arith, nat_tests)

letter_of : (byte : ℕ) → IsTrue (is_letter byte) → IsTrue (is_character byte)
letter_of byte is = grind (arith, nat_tests)

each_character : (bytes : List ℕ) → IsTrue (list_all is_letter_or_digit bytes) → IsTrue (is_text bytes)
each_character [] all = refl
each_character (byte ∷ behind) all =
    let here : IsTrue (is_letter_or_digit byte) = grind (arith, nat_tests) in
    let there : IsTrue (list_all is_letter_or_digit behind) = grind (arith, nat_tests) in
    let first : IsTrue (is_character byte) = character_of byte here in
    let rest = each_character behind there in
    grind (arith, nat_tests)

pub name_is_text : (name : List ℕ) → IsTrue (is_kit_name name) → IsTrue (is_text name)
name_is_text [] is = cc
name_is_text (byte ∷ behind) is =
    let here : IsTrue (is_letter byte) = grind (arith, nat_tests) in
    let there : IsTrue (list_all is_letter_or_digit behind) = grind (arith, nat_tests) in
    let first = letter_of byte here in
    let rest = each_character behind there in
    grind (arith, nat_tests)
