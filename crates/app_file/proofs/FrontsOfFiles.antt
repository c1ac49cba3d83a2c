-- Bytes begin with one front at most.
use Rattle.std.proofs.Common.{◌≡◌, ℕ, ◌<◌, ◌⊎◌, inl, inr, ℤ, IsTrue, List, [], ◌∷◌, ◌++◌, length, FitsSigned, refl, sym, ◌∙◌, arith}
use Rattle.std.specs.Prelude.{nat_lt}
use Rattle.std.specs.List.{flat_map, list_all, AllByRecursion}
use Rattle.std.specs.Int.{w32}
use Rattle.std.proofs.lemmas.Bool.Decides.{nat_tests}
use Rattle.std.proofs.lemmas.List.Elements.{recursion_from_All}
use Rattle.sed_value.specs.Characters.{is_letter, is_letter_or_digit, is_word_byte}
use Rattle.sed_value.specs.Names.{is_kit_name, is_name}
use Rattle.sed_value.specs.Value.{is_signed}
use Rattle.sed_value.specs.declared.kit.KitRef.{KitRef}
use Rattle.comp_tree.specs.Edit.{kit_bytes}
use Rattle.comp_tree.specs.Parts.{text, u1}
use Rattle.app_file.specs.Reading.{IsFront}
use Rattle.sed_wire.specs.Number.{u4}
use Rattle.app_file.specs.Text.{file_mark, front_text, kits_text}
use Rattle.app_file.proofs.OneWay.{Fronts, HasNoZero, fronts-int, fronts-text, fronts-u1, fronts-u4, peel}

-- ---- names

first_positive : (is_later : ℕ → _) (bytes : List ℕ) → ((byte : ℕ) → IsTrue (is_later byte) → IsTrue (nat_lt 0 byte)) → IsTrue (list_all is_later bytes) → HasNoZero bytes
first_positive is_later [] positive all = refl
first_positive is_later (byte ∷ behind) positive all =
    let here : IsTrue (is_later byte) = grind (arith, nat_tests) in
    let there : IsTrue (list_all is_later behind) = grind (arith, nat_tests) in
    let first = positive byte here in
    let rest = first_positive is_later behind positive there in
    grind (arith, nat_tests)

letter_positive : (byte : ℕ) → IsTrue (is_letter byte) → IsTrue (nat_lt 0 byte)
letter_positive byte is = grind (arith, nat_tests)

letter_or_digit_positive : (byte : ℕ) → IsTrue (is_letter_or_digit byte) → IsTrue (nat_lt 0 byte)
letter_or_digit_positive byte is = grind (arith, nat_tests)

word_byte_positive : (byte : ℕ) → IsTrue (is_word_byte byte) → IsTrue (nat_lt 0 byte)
word_byte_positive byte is = grind (arith, nat_tests)

pub kit_name_positive : (name : List ℕ) → IsTrue (is_kit_name name) → HasNoZero name
kit_name_positive [] is = cc
kit_name_positive (byte ∷ behind) is =
    let here : IsTrue (is_letter byte) = grind (arith, nat_tests) in
    let there : IsTrue (list_all is_letter_or_digit behind) = grind (arith, nat_tests) in
    let first = letter_positive byte here in
    let rest = first_positive is_letter_or_digit behind letter_or_digit_positive there in
    grind (arith, nat_tests)

pub name_positive : (name : List ℕ) → IsTrue (is_name name) → HasNoZero name
name_positive [] is = cc
name_positive (byte ∷ behind) is =
    let here : IsTrue (is_letter byte) = grind (arith, nat_tests) in
    let there : IsTrue (list_all is_word_byte behind) = grind (arith, nat_tests) in
    let first = letter_positive byte here in
    let rest = first_positive is_word_byte behind word_byte_positive there in
    grind (arith, nat_tests)

-- ---- kits

abbrev IsKit : KitRef → Type 0
IsKit kit = HasNoZero kit.name × FitsSigned w32 kit.checksum

fronts-kit : Fronts IsKit kit_bytes
fronts-kit a b x y is_a is_b e =
    let names = peel HasNoZero text fronts-text a.name b.name _ _ x y is_a.0 is_b.0 e in
    let sums = fronts-int a.checksum b.checksum x y is_a.1 is_b.1 names.1 in
    (λ i. record { name = names.0 i; checksum = sums.0 i }, sums.1)

-- lists of one length
pub fronts-list : {A : Type 0} (P : A → Type 0) (f : A → List ℕ) → Fronts P f → (ones bs : List A) (x y : List ℕ) → length ones ≡ length bs
    → AllByRecursion P ones → AllByRecursion P bs → flat_map f ones ++ x ≡ flat_map f bs ++ y → (ones ≡ bs) × (x ≡ y)
fronts-list P f fronts [] [] x y long all_a all_b e = (refl, e)
fronts-list P f fronts [] (b ∷ bs) x y long all_a all_b e = absurd (omega arith)
fronts-list P f fronts (a ∷ ones) [] x y long all_a all_b e = absurd (omega arith)
fronts-list P f fronts (a ∷ ones) (b ∷ bs) x y long all_a all_b e =
    let here = peel P f fronts a b (flat_map f ones) (flat_map f bs) x y all_a.0 all_b.0 e in
    let rest = fronts-list P f fronts ones bs x y (omega arith) all_a.1 all_b.1 here.1 in
    (λ i. here.0 i ∷ rest.0 i, rest.1)

signed_fits : (z : ℤ) → IsTrue (is_signed w32 z) → FitsSigned w32 z
signed_fits z is = record { sfits = grind (arith, nat_tests) }

are_kits : (kits : List KitRef) → AllByRecursion (λ kit. IsTrue (is_kit_name kit.name)) kits → AllByRecursion (λ kit. IsTrue (is_signed w32 kit.checksum)) kits
    → AllByRecursion IsKit kits
are_kits [] names sums = names
are_kits (kit ∷ kits) names sums = ((kit_name_positive kit.name names.0, signed_fits kit.checksum sums.0), are_kits kits names.1 sums.1)

kits_of : {version : ℕ} {kits : List KitRef} {bytes rest : List ℕ} → IsFront version kits bytes rest → AllByRecursion IsKit kits
kits_of {kits = kits} f = are_kits kits (recursion_from_All _ kits f.names) (recursion_from_All _ kits f.checksums)

-- ---- fronts

version_small : (v : ℕ) → (v ≡ 4) ⊎ (v ≡ 3) → v < 4294967296
version_small v (inl is) = omega arith
version_small v (inr is) = omega arith

pub one_front : (v w : ℕ) (kits others : List KitRef) (bytes x y : List ℕ) → IsFront v kits bytes x → IsFront w others bytes y
    → (v ≡ w) × (kits ≡ others) × (x ≡ y)
one_front v w kits others bytes x y f g =
    let whole : front_text v kits ++ x ≡ front_text w others ++ y = sym f.front ∙ g.front in
    let marks = peel (λ n. n < 4294967296) u4 fronts-u4 file_mark file_mark (u4 v ++ kits_text kits) (u4 w ++ kits_text others) x y (omega arith) (omega arith) whole in
    let versions = peel (λ n. n < 4294967296) u4 fronts-u4 v w (kits_text kits) (kits_text others) x y (version_small v f.known) (version_small w g.known) marks.1 in
    let counts = peel (λ n. n < 256) u1 fronts-u1 (length kits) (length others) (flat_map kit_bytes kits) (flat_map kit_bytes others) x y f.few g.few versions.1 in
    let same = fronts-list IsKit kit_bytes fronts-kit kits others x y counts.0 (kits_of f) (kits_of g) counts.1 in
    (versions.0, same.0, same.1)
