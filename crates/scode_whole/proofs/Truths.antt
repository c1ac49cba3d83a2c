-- Tests that pass, taken apart.
use Rattle.std.proofs.Common.{◌≡◌, ◌<◌, ◌+◌, ◌&&◌, ◌||◌, ◌⊎◌, inl, inr, ℕ, zero, suc, Bool, true, false, List, [], ◌∷◌, map, length, Option, Some, None, refl, sym, ap, subst, ◌∙◌, arith}
use Rattle.std.specs.Prelude.{All, slice_get, slice_index_or}
use Rattle.std.specs.List.{enumerate_from, list_all, range_with_len}
use Rattle.std.specs.Option.{option_and_then, option_map_or}
use Rattle.std.proofs.lemmas.Bool.{and_parts}
use Rattle.std.proofs.lemmas.Option.{slice_get-map}
pub use Rattle.std.proofs.lemmas.Option.{same_Some as same_value}
pub use Rattle.std.proofs.lemmas.Bool.{and_parts as two, not-true as is_not}

pub no_truth : {P : Type 0} → false ≡ true → P
no_truth h = let never : ⊥ = cc in absurd never

pub no_value : {P : Type 0} {A : Type 0} (x : A) → None ≡ Some x → P
no_value x e = let never : ⊥ = cc in absurd never

-- ---- so many truths at once

pub three : (a b c : Bool) → ((a && b) && c) ≡ true → (a ≡ true) × (b ≡ true) × (c ≡ true)
three a b c h = let last = and_parts (a && b) c h in let front = two a b last.0 in (front.0, front.1, last.1)

pub four : (a b c d : Bool) → (((a && b) && c) && d) ≡ true → (a ≡ true) × (b ≡ true) × (c ≡ true) × (d ≡ true)
four a b c d h =
    let last = and_parts ((a && b) && c) d h in
    let front = three a b c last.0 in
    (front.0, front.1, front.2, last.1)

pub five : (a b c d e : Bool) → ((((a && b) && c) && d) && e) ≡ true
    → (a ≡ true) × (b ≡ true) × (c ≡ true) × (d ≡ true) × (e ≡ true)
five a b c d e h =
    let last = and_parts (((a && b) && c) && d) e h in
    let front = four a b c d last.0 in
    (front.0, front.1, front.2, front.3, last.1)

pub six : (a b c d e f : Bool) → (((((a && b) && c) && d) && e) && f) ≡ true
    → (a ≡ true) × (b ≡ true) × (c ≡ true) × (d ≡ true) × (e ≡ true) × (f ≡ true)
six a b c d e f h =
    let last = and_parts ((((a && b) && c) && d) && e) f h in
    let front = five a b c d e last.0 in
    (front.0, front.1, front.2, front.3, front.4, last.1)

pub seven : (a b c d e f g : Bool) → ((((((a && b) && c) && d) && e) && f) && g) ≡ true
    → (a ≡ true) × (b ≡ true) × (c ≡ true) × (d ≡ true) × (e ≡ true) × (f ≡ true) × (g ≡ true)
seven a b c d e f g h =
    let last = and_parts (((((a && b) && c) && d) && e) && f) g h in
    let next = and_parts ((((a && b) && c) && d) && e) f last.0 in
    let front = five a b c d e next.0 in
    (front.0, front.1, front.2, front.3, front.4, next.1, last.1)

pub nine : (a b c d e f g h i : Bool) → ((((((((a && b) && c) && d) && e) && f) && g) && h) && i) ≡ true
    → (a ≡ true) × (b ≡ true) × (c ≡ true) × (d ≡ true) × (e ≡ true) × (f ≡ true) × (g ≡ true) × (h ≡ true) × (i ≡ true)
nine a b c d e f g h i is =
    let last = and_parts (((((((a && b) && c) && d) && e) && f) && g) && h) i is in
    let next = and_parts ((((((a && b) && c) && d) && e) && f) && g) h last.0 in
    let front = seven a b c d e f g next.0 in
    (front.0, front.1, front.2, front.3, front.4, front.5, front.6, next.1, last.1)

pub either : (a b : Bool) → (a || b) ≡ true → (a ≡ true) ⊎ (b ≡ true)
either true b h = inl refl
either false b h = inr h

-- ---- each of a list

pub passes : {X : Type 0} (test : X → Bool) (xs : List X) (k : ℕ) (x : X) → list_all test xs ≡ true
    → slice_get xs k ≡ Some x → test x ≡ true
passes test [] k x all e = no_value x e
passes test (y ∷ ys) zero x all e =
    let same : y ≡ x = same_value y x e in
    subst (λ z. test z ≡ true) same (and_parts (test y) (list_all test ys) all).0
passes test (y ∷ ys) (suc k) x all e = passes test ys k x (and_parts (test y) (list_all test ys) all).1 e

pub numbered_passes : {X : Type 0} (test : ℕ → X → Bool) (from k : ℕ) (xs : List X) (x : X)
    → list_all (λ (at : ℕ × X). test at.0 at.1) (enumerate_from from xs) ≡ true → slice_get xs k ≡ Some x
    → test (from + k) x ≡ true
numbered_passes test from k [] x all e = no_value x e
numbered_passes {X} test from zero (y ∷ ys) x all e =
    let same : y ≡ x = same_value y x e in
    let here : from ≡ from + 0 = omega arith in
    let first = (and_parts (test from y) (list_all (λ (at : ℕ × X). test at.0 at.1)
    (enumerate_from (from + 1) ys)) all).0 in
    subst (λ n. test n x ≡ true) here (subst (λ z. test from z ≡ true) same first)
numbered_passes {X} test from (suc k) (y ∷ ys) x all e =
    let there : from + 1 + k ≡ from + suc k = omega arith in
    let rest = (and_parts (test from y) (list_all (λ (at : ℕ × X). test at.0 at.1)
    (enumerate_from (from + 1) ys)) all).1 in
    subst (λ n. test n x ≡ true) there (numbered_passes test (from + 1) k ys x rest e)

-- the same of those that are numbered from 0
pub at_number : {X : Type 0} (test : ℕ → X → Bool) (k : ℕ) (xs : List X) (x : X)
    → list_all (λ (at : ℕ × X). test at.0 at.1) (enumerate_from 0 xs) ≡ true → slice_get xs k ≡ Some x → test k x ≡ true
at_number test k xs x all e =
    let same : 0 + k ≡ k = omega arith in
    subst (λ n. test n x ≡ true) same (numbered_passes test 0 k xs x all e)

pub in_range : (test : ℕ → Bool) (from n k : ℕ) → list_all test (range_with_len from n) ≡ true → k < n
    → test (from + k) ≡ true
in_range test from zero k all h = absurd (omega (arith, h))
in_range test from (suc n) zero all h =
    let here : from ≡ from + 0 = omega arith in
    subst (λ m. test m ≡ true) here (and_parts (test from) (list_all test (range_with_len (from + 1) n)) all).0
in_range test from (suc n) (suc k) all h =
    let there : from + 1 + k ≡ from + suc k = omega arith in
    subst (λ m. test m ≡ true) there
    (in_range test (from + 1) n k (and_parts (test from) (list_all test (range_with_len (from + 1) n)) all).1
    (omega (arith, h)))

pub in_all : (test : ℕ → Bool) (n k : ℕ) → list_all test (range_with_len 0 n) ≡ true → k < n → test k ≡ true
in_all test n k all h =
    let same : 0 + k ≡ k = omega arith in
    subst (λ m. test m ≡ true) same (in_range test 0 n k all h)

found : {X : Type 0} (xs : List X) (k : ℕ) (d : X) → k < length xs → slice_get xs k ≡ Some (slice_index_or xs k d)
found [] k d h = absurd (omega (arith, h))
found (x ∷ xs) zero d h = refl
found (x ∷ xs) (suc k) d h = found xs k d (omega (arith, h))

-- what holds of each by its place holds of each in the list
pub all_from : {X : Type 0} (P : X → Type 0) (xs : List X) → ((k : ℕ) (x : X) → slice_get xs k ≡ Some x → P x)
    → All P xs
all_from P xs each k d h = each k (slice_index_or xs k d) (found xs k d h)

-- what stands in a mapped list is of what stands in the list
pub of_mapped : {X Y : Type 0} (f : X → Y) (xs : List X) (k : ℕ) (y : Y) → slice_get (map f xs) k ≡ Some y
    → (x : X) × (slice_get xs k ≡ Some x) × (y ≡ f x)
of_mapped {X} {Y} f xs k y e = by_value (slice_get xs k) refl
  where
    by_value : (o : Option X) → slice_get xs k ≡ o → (x : X) × (slice_get xs k ≡ Some x) × (y ≡ f x)
    by_value None is = no_value y (sym (slice_get-map f xs k ∙ ap (λ (o : Option X). mapped o) is) ∙ e)
      where
        mapped : Option X → Option Y
        mapped None = None
        mapped (Some x) = Some (f x)
    by_value (Some x) is = (
      x,
      is,
      same_value y (f x) (sym e ∙ slice_get-map f xs k
          ∙ ap (λ (o : Option X). mapped o) is),
    )
      where
        mapped : Option X → Option Y
        mapped None = None
        mapped (Some x) = Some (f x)

pub all_mapped : {X Y : Type 0} (f : X → Y) (P : Y → Type 0) (xs : List X)
    → ((k : ℕ) (x : X) → slice_get xs k ≡ Some x → P (f x)) → All P (map f xs)
all_mapped f P xs each = all_from P (map f xs) (λ k y e. by_parts k y (of_mapped f xs k y e))
  where
    by_parts : (k : ℕ) (y : _) → (x : _) × (slice_get xs k ≡ Some x) × (y ≡ f x) → P y
    by_parts k y (x, is, same) = subst P (sym same) (each k x is)

-- what is reached through what may be there
pub through : {X Y : Type 0} (f : X → Option Y) (o : Option X) (y : Y) → option_and_then f o ≡ Some y
    → (x : X) × (o ≡ Some x) × (f x ≡ Some y)
through f None y e = no_value y e
through f (Some x) y e = (x, refl, e)

-- a test of what may be there, and which is false where it is not
pub there : {X : Type 0} (test : X → Bool) (o : Option X) → option_map_or test o false ≡ true
    → (x : X) × (o ≡ Some x) × (test x ≡ true)
there test None h = no_truth h
there test (Some x) h = (x, refl, h)
