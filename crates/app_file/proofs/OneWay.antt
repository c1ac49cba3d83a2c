-- Texts that end where they are seen to end: of two in front of the same bytes both are one.
use Rattle.std.proofs.Common.{◌≡◌, ℕ, ◌%◌, ◌<◌, IsTrue, List, [], ◌∷◌, ◌++◌, length, FitsSigned, refl, sym, ◌∙◌, ap, arith, append_assoc}
use Rattle.std.specs.Prelude.{nat_lt}
use Rattle.std.specs.List.{list_all}
use Rattle.std.specs.Int.{w16, w32, bytes_high_first, cast_signed, cast_unsigned, from_be_bytes}
use Rattle.std.proofs.Math.Nat.{mod-eq_of_lt}
use Rattle.std.proofs.lemmas.Nat.{from_be_bytes-to_be_bytes_2, from_be_bytes-to_be_bytes_4}
use Rattle.std.proofs.lemmas.Int.{to_z-of_z}
use Rattle.std.proofs.Math.Facts.{Fits-of_z}
use Rattle.std.proofs.lemmas.Bool.Decides.{nat_tests}
use Rattle.comp_tree.specs.Parts.{text, u1, u2}
use Rattle.sed_wire.specs.Number.{u4}

-- of two things that have P, whose texts stand in front of the same bytes
abbrev pub Fronts : {A : Type 0} → (A → Type 0) → (A → List ℕ) → Type 0
Fronts {A} P f = (a b : A) (x y : List ℕ) → P a → P b → f a ++ x ≡ f b ++ y → (a ≡ b) × (x ≡ y)

pub same_front : (a b x y : List ℕ) → length a ≡ length b → a ++ x ≡ b ++ y → (a ≡ b) × (x ≡ y)
same_front [] [] x y long e = (refl, e)
same_front [] (b ∷ bs) x y long e = absurd (omega arith)
same_front (a ∷ bytes) [] x y long e = absurd (omega arith)
same_front (a ∷ bytes) (b ∷ bs) x y long e =
    let tails : bytes ++ x ≡ bs ++ y = cc in
    let rest = same_front bytes bs x y (omega arith) tails in
    (cc, rest.1)

-- a field in front of the rest of a text
pub peel : {A : Type 0} (P : A → Type 0) (f : A → List ℕ) → Fronts P f → (a b : A) (r s x y : List ℕ) → P a → P b
    → (f a ++ r) ++ x ≡ (f b ++ s) ++ y → (a ≡ b) × (r ++ x ≡ s ++ y)
peel P f fronts a b r s x y pa pb e = fronts a b (r ++ x) (s ++ y) pa pb (sym (append_assoc (f a) r x) ∙ e ∙ append_assoc (f b) s y)

-- ---- numbers

pub fronts-u1 : Fronts (λ n. n < 256) u1
fronts-u1 a b x y below_a below_b e =
    let parts = same_front (u1 a) (u1 b) x y refl e in
    let bytes : u1 a ≡ u1 b = parts.0 in
    let same : a % 256 ≡ b % 256 = cc in
    (sym (mod-eq_of_lt below_a) ∙ same ∙ mod-eq_of_lt below_b, parts.1)

pub fronts-u2 : Fronts (λ n. n < 65536) u2
fronts-u2 a b x y below_a below_b e =
    let parts = same_front (u2 a) (u2 b) x y refl e in
    (sym (from_be_bytes-to_be_bytes_2 a below_a) ∙ ap (from_be_bytes w16) parts.0 ∙ from_be_bytes-to_be_bytes_2 b below_b, parts.1)

pub fronts-u4 : Fronts (λ n. n < 4294967296) u4
fronts-u4 a b x y below_a below_b e =
    let parts = same_front (u4 a) (u4 b) x y refl e in
    (sym (from_be_bytes-to_be_bytes_4 a below_a) ∙ ap (from_be_bytes w32) parts.0 ∙ from_be_bytes-to_be_bytes_4 b below_b, parts.1)

pub fronts-int : Fronts (FitsSigned w32) (λ z. bytes_high_first 4 (cast_unsigned w32 z))
fronts-int a b x y fits_a fits_b e =
    let parts = fronts-u4 (cast_unsigned w32 a) (cast_unsigned w32 b) x y (Fits-of_z fits_a).fits (Fits-of_z fits_b).fits e in
    (sym (to_z-of_z w32 a fits_a) ∙ ap (cast_signed w32) parts.0 ∙ to_z-of_z w32 b fits_b, parts.1)

-- ---- texts

abbrev pub HasNoZero : List ℕ → Type 0
HasNoZero name = IsTrue (list_all (nat_lt 0) name)

same_before : (v w x y : List ℕ) → HasNoZero v → HasNoZero w → v ++ 0 ∷ x ≡ w ++ 0 ∷ y → (v ≡ w) × (x ≡ y)
same_before [] [] x y all_v all_w e = (refl, cc)
same_before [] (b ∷ bs) x y all_v all_w e =
    let first : 0 ≡ b = cc in
    absurd (grind (arith, nat_tests))
same_before (a ∷ vs) [] x y all_v all_w e =
    let first : a ≡ 0 = cc in
    absurd (grind (arith, nat_tests))
same_before (a ∷ vs) (b ∷ bs) x y all_v all_w e =
    let all_a : HasNoZero vs = grind (arith, nat_tests) in
    let all_b : HasNoZero bs = grind (arith, nat_tests) in
    let tails : vs ++ 0 ∷ x ≡ bs ++ 0 ∷ y = cc in
    let first : a ≡ b = cc in
    let rest = same_before vs bs x y all_a all_b tails in
    let same = rest.0 in
    (cc, rest.1)

pub fronts-text : Fronts HasNoZero text
fronts-text a b x y all_a all_b e =
    same_before a b x y all_a all_b (sym (append_assoc a (0 ∷ []) x) ∙ e ∙ append_assoc b (0 ∷ []) y)
