-- Members that stand one behind the other.
use Rattle.std.proofs.Common.{◌≡◌, ◌⊎◌, ◌<◌, ◌≤◌, ◌+◌, Bool, true, ℕ, zero, suc, List, [], ◌∷◌, ◌++◌, drop, length, get_or, slice_get, Option, Some, None, inl, inr, refl, sym, ap, subst, ◌∙◌, arith}
use Rattle.std.proofs.Math.Numerals.{add-one}
use Rattle.std.proofs.Math.Seq.{drop-cons}
use Rattle.sed_units.specs.declared.classes.Member.{Member}
use Rattle.sed_classes.specs.declared.kit_units.KitUnits.{KitUnits}
use Rattle.sed_classes.specs.Members.{members_of}
use Rattle.sed_rules.specs.Settled.{AreApart, AreApartIn}

-- each stands behind the ones before it, and the first one not before `end`
abbrev pub AreRising : ℕ → List Member → Type 0
AreRising end [] = Unit {0}
AreRising end (m ∷ ms) = (end ≤ m.at) × AreRising (m.at + 1) ms

some_eq : (a b : Member) → ◌≡◌ {A = Option Member} (Some a) (Some b) → a ≡ b
some_eq a b e = cc

rising_above : (end i : ℕ) (members : List Member) (b : Member) → AreRising end members → slice_get members i ≡ Some b → end ≤ b.at
rising_above end i [] b rising e = cc
rising_above end zero (m ∷ ms) b rising e =
    let same : m.at ≡ b.at = ap (λ (x : Member). x.at) (some_eq m b e) in
    omega (arith, rising.0, same)
rising_above end (suc i) (m ∷ ms) b rising e =
    omega (arith, rising.0, rising_above (m.at + 1) i ms b rising.1 e)

pub rising_apart : (end : ℕ) (members : List Member) → AreRising end members → AreApart members
rising_apart end [] rising i j a b p q e = cc
rising_apart end (m ∷ ms) rising zero zero a b p q e = some_eq a b (sym p ∙ q)
rising_apart end (m ∷ ms) rising zero (suc j) a b p q e =
    let same : m.at ≡ a.at = ap (λ (x : Member). x.at) (some_eq m a p) in
    absurd (omega (arith, same, e, rising_above (m.at + 1) j ms b rising.1 q))
rising_apart end (m ∷ ms) rising (suc i) zero a b p q e =
    let same : m.at ≡ b.at = ap (λ (x : Member). x.at) (some_eq m b q) in
    absurd (omega (arith, same, e, rising_above (m.at + 1) i ms a rising.1 p))
rising_apart end (m ∷ ms) rising (suc i) (suc j) a b p q e = rising_apart (m.at + 1) ms rising.1 i j a b p q e

-- one member more that stands behind the ones before it
pub rising_step : (members : List Member) (i end new : ℕ) (member : Member) → i < length members → get_or members i member ≡ member →
    end ≤ member.at → new ≡ member.at + 1 → (AreRising end (drop i members) → AreRising 0 members) →
    AreRising new (drop (i + 1) members) → AreRising 0 members
rising_step members i end new member within at behind more before rest =
    let begins : drop i members ≡ member ∷ drop (i + 1) members =
    drop-cons members i member within
    ∙ ap (λ y. y ∷ drop (suc i) members) at
    ∙ ap (λ k. member ∷ drop k members) (sym (add-one i)) in
    let P : List Member → Type 0 = λ ms. AreRising end ms in
    let Q : ℕ → Type 0 = λ n. AreRising n (drop (i + 1) members) in
    before (subst P (sym begins) (behind, subst Q more rest))

-- none are left
pub rising_end : (members : List Member) (i end : ℕ) → length members ≤ i → AreRising end (drop i members)
rising_end [] zero end past = tt
rising_end [] (suc i) end past = tt
rising_end (m ∷ ms) zero end past = absurd (omega arith)
rising_end (m ∷ ms) (suc i) end past = rising_end ms i end (omega arith)

-- a row with one item more
row_more : (row : List Bool) (b : Bool) (k : ℕ) → slice_get (row ++ b ∷ []) k ≡ Some true →
    (slice_get row k ≡ Some true) ⊎ ((k ≡ length row) × (b ≡ true))
row_more [] b zero e = inr (refl, same_bool b e)
  where
    same_bool : (b : Bool) → ◌≡◌ {A = Option Bool} (Some b) (Some true) → b ≡ true
    same_bool b e = cc
row_more [] b (suc k) e = absurd (let no : ◌≡◌ {A = Option Bool} None (Some true) = e in cc)
row_more (x ∷ row) b zero e = inl e
row_more (x ∷ row) b (suc k) e = elim (row_more row b k e) [
  | inl there ↦ inl there
  | inr last ↦ inr (ap suc last.0, last.1)
]

pub apart_more : (units : List KitUnits) (row new : List Bool) (class : ℕ) (b : Bool) → new ≡ row ++ b ∷ [] →
    length row ≡ class → (b ≡ true → AreApart (members_of units class)) → AreApartIn units row → AreApartIn units new
apart_more units row new class b is count says apart k e =
    let P : ℕ → Type 0 = λ c. AreApart (members_of units c) in
    elim (row_more row b k (ap (λ r. slice_get r k) (sym is) ∙ e)) [
      | inl there ↦ apart k there
      | inr last ↦ subst P (sym (last.0 ∙ count)) (says last.1)
    ]
