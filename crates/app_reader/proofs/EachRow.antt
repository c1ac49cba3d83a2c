-- Rows one after another.
use Rattle.std.proofs.Common.{◌≡◌, ℕ, zero, suc, ◌<◌, ◌≤◌, ◌+◌, Bool, true, false, List, length, refl, sym, ◌∙◌, ap, arith, eqb-true}
use Rattle.std.specs.Prelude.{Option, Some, None, IfSome, IsTrue, ◌↔◌, ◌==◌, slice_get}
use Rattle.std.proofs.lemmas.Bool.Decides.{nat_tests}
use Rattle.std.proofs.lemmas.Option.{slice_get_within}
use Rattle.sed_engine.specs.Code.{Meaning}
use Rattle.app_front.specs.declared.rows.FileRow.{FileRow}
use Rattle.app_reader.specs.FormedFile.{IsAppRow, IsOtherRow}
use Rattle.app_reader.specs.Checks.{AreKinds}

if_some : {A : Type 0} (P : A → Type 0) (o : Option A) → ((x : A) → o ≡ Some x → P x) → IfSome o P
if_some P None each = tt
if_some P (Some x) each = each x refl

of_some : {A : Type 0} (P : A → Type 0) (o : Option A) (x : A) → IfSome o P → o ≡ Some x → P x
of_some {A} P None x all is = absurd (let no : ◌≡◌ {A = Option A} None (Some x) = is in cc)
of_some {A} P (Some y) x all is = let same : y ≡ x = (let both : ◌≡◌ {A = Option A} (Some y) (Some x) = is in cc) in subst_it P y x same all
  where
    subst_it : {A : Type 0} (P : A → Type 0) (y x : A) → y ≡ x → P y → P x
    subst_it P y x same p = rw (sym same) p

-- what holds of each before a place, and of the next, holds of each before the next place
pub below_next : {A : Type 0} (P : ℕ → A → Type 0) (xs : List A) (n : ℕ) (x : A) → slice_get xs n ≡ Some x → P n x
    → ((k : ℕ) (y : A) → k < n → slice_get xs k ≡ Some y → P k y) → (k : ℕ) (y : A) → k < n + 1 → slice_get xs k ≡ Some y → P k y
below_next {A} P xs n x at here before k y lt at' = by_place (k == n) refl
  where
    by_place : (b : Bool) → (k == n) ≡ b → P k y
    by_place true tie =
        let place : k ≡ n = eqb-true k n tie in
        let both : ◌≡◌ {A = Option A} (Some x) (Some y) = sym at ∙ ap (slice_get xs) (sym place) ∙ at' in
        let same : x ≡ y = cc in
        rw (place, sym same) here
    by_place false apart = before k y (grind (arith, nat_tests)) at'

-- ---- kinds

-- the class of the row at a place is one that it may have there
abbrev pub IsKind : Meaning → ℕ → FileRow → Type 0
IsKind m zero r = IsAppRow m r
IsKind m (suc place) r = IsOtherRow m r

pub kind_there : (m : Meaning) (place : ℕ) (r : FileRow) (b : Bool) → (place ≡ 0 → (IsTrue b ↔ IsAppRow m r)) → (0 < place → (IsTrue b ↔ IsOtherRow m r)) → (IsTrue b ↔ IsKind m place r)
kind_there m zero r b app other = app refl
kind_there m (suc place) r b app other = other (omega arith)

kind_of : (m : Meaning) (rows : List FileRow) (k : ℕ) (r : FileRow) → AreKinds m rows → slice_get rows k ≡ Some r → IsKind m k r
kind_of m rows zero r kinds at = of_some (IsAppRow m) (slice_get rows 0) r kinds.app at
kind_of m rows (suc k) r kinds at = of_some (IsOtherRow m) (slice_get rows (suc k)) r (kinds.others (suc k) (omega arith)) at

pub not_kinds : (m : Meaning) (rows : List FileRow) (k : ℕ) (r : FileRow) → slice_get rows k ≡ Some r → (IsKind m k r → ⊥) → AreKinds m rows → ⊥
not_kinds m rows k r at refuted kinds = refuted (kind_of m rows k r kinds at)

other_kind : (m : Meaning) (rows : List FileRow) → ((k : ℕ) (r : FileRow) → slice_get rows k ≡ Some r → IsKind m k r) → (place : ℕ) → 0 < place → IfSome (slice_get rows place) (IsOtherRow m)
other_kind m rows each zero lt = absurd (omega (arith, lt))
other_kind m rows each (suc k) lt = if_some (IsOtherRow m) (slice_get rows (suc k)) (λ r at. each (suc k) r at)

pub are_kinds : (m : Meaning) (rows : List FileRow) (n : ℕ) → length rows ≤ n → ((k : ℕ) (r : FileRow) → k < n → slice_get rows k ≡ Some r → IsKind m k r) → AreKinds m rows
are_kinds m rows n all each =
    let whole : (k : ℕ) (r : FileRow) → slice_get rows k ≡ Some r → IsKind m k r = λ k r at. each k r (let lt = slice_get_within rows k r at in omega (arith, lt, all)) at in
    record { app = if_some (IsAppRow m) (slice_get rows 0) (λ r at. whole 0 r at); others = other_kind m rows whole }
