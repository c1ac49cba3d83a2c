-- Places and counts in lists of numbers.
use Rattle.std.proofs.Common.{◌≡◌, ◌<◌, ◌≤◌, ◌+◌, ◌==◌, ℕ, zero, suc, Bool, true, false, not, nat_lt, if◌then◌else◌, List, [], ◌∷◌, length, get_or, slice_get, position, Some, None, refl, ap, ◌∙◌, arith}
use Rattle.std.specs.List.{count_by, position_or_len, range_with_len}
use Rattle.std.specs.Option.{option_map}
use Rattle.std.proofs.lemmas.List.Sums.{sum_by-cons}
use Rattle.std.proofs.lemmas.List.Quantifiers.{position-Some}
use Rattle.std.proofs.lemmas.Option.{slice_get-get_or, slice_get_within}
use Rattle.std.proofs.lemmas.Bool.Decides.{nat_tests}
pub use Rattle.std.proofs.lemmas.Bool.{eqb-true as is_same}

-- a number is this one
abbrev pub is : ℕ → ℕ → Bool
is c x = x == c

pub is_itself : (c : ℕ) → (c == c) ≡ true
is_itself c = grind (arith, nat_tests)

pub is_other : (x c : ℕ) → (x == c) ≡ false → x ≡ c → ⊥
is_other x c e s = grind (arith, nat_tests)

-- ---- first places

pub position_yes : {X : Type 0} (p : X → Bool) (x : X) (xs : List X) → p x ≡ true → position p (x ∷ xs) ≡ Some 0
position_yes p x xs e = by_len (position_or_len p (x ∷ xs)) (ap (λ b. if not b then 1 + position_or_len p xs else 0) e)
  where
    within : (k n : ℕ) → k ≡ 0 → nat_lt k (suc n) ≡ true
    within k n e = grind (arith, nat_tests)

    by_len : (k : ℕ) → k ≡ 0 → (if nat_lt k (suc (length xs)) then Some k else None) ≡ Some 0
    by_len k s = ap (λ b. if b then Some k else None) (within k (length xs) s) ∙ ap Some s

pub position_no : {X : Type 0} (p : X → Bool) (x : X) (xs : List X) → p x ≡ false →
    position p (x ∷ xs) ≡ option_map suc (position p xs)
position_no p x xs e =
    by_len (position_or_len p (x ∷ xs)) (position_or_len p xs) (length xs) (ap
    (λ b. if not b then 1 + position_or_len p xs else 0) e)
  where
    one_more : (k j n : ℕ) → k ≡ 1 + j → nat_lt k (suc n) ≡ nat_lt j n
    one_more k j n s = by_tests (nat_lt k (suc n)) (nat_lt j n) refl refl
      where
        by_tests : (a b : Bool) → nat_lt k (suc n) ≡ a → nat_lt j n ≡ b → a ≡ b
        by_tests true true p q = refl
        by_tests true false p q = absurd (grind (arith, nat_tests))
        by_tests false true p q = absurd (grind (arith, nat_tests))
        by_tests false false p q = refl

    mapped : (b : Bool) (k j : ℕ) → k ≡ suc j → (if b then Some k else None)
        ≡ option_map suc (if b then Some j else None)
    mapped true k j s = ap Some s
    mapped false k j s = refl

    by_len : (k j n : ℕ) → k ≡ 1 + j → (if nat_lt k (suc n) then Some k else None)
        ≡ option_map suc (if nat_lt j n then Some j else None)
    by_len k j n s =
        let t : k ≡ suc j = omega (arith, s) in
        ap (λ b. if b then Some k else None) (one_more k j n s) ∙ mapped (nat_lt j n) k j t

pub position_at : {X : Type 0} (p : X → Bool) (xs : List X) (k : ℕ) → position p xs ≡ Some k →
    (x : X) × (slice_get xs k ≡ Some x) × (p x ≡ true)
position_at p [] k e = cc
position_at p (x ∷ xs) k e =
    let f = position-Some p (x ∷ xs) k x e in
    (get_or (x ∷ xs) k x, slice_get-get_or (x ∷ xs) k x f.0, f.1)

pub position_within : {X : Type 0} (p : X → Bool) (xs : List X) (k : ℕ) → position p xs ≡ Some k → k < length xs
position_within p xs k e = let f = position_at p xs k e in slice_get_within xs k f.0 f.1

-- ---- counts

abbrev pub weight : Bool → ℕ
weight b = if b then 1 else 0

pub count_cons : {X : Type 0} (p : X → Bool) (x : X) (xs : List X) → count_by p (x ∷ xs) ≡ weight (p x) + count_by p xs
count_cons p x xs = sum_by-cons (λ y. weight (p y)) x xs

pub count_there : {X : Type 0} (p : X → Bool) (xs : List X) (k : ℕ) (x : X) → slice_get xs k ≡ Some x → p x ≡ true →
    1 ≤ count_by p xs
count_there p [] k x e t = cc
count_there p (y ∷ ys) zero x e t =
    let same : y ≡ x = cc in
    let yes : weight (p y) ≡ 1 = ap (λ z. weight (p z)) same ∙ ap weight t in
    omega (arith, count_cons p y ys, yes)
count_there p (y ∷ ys) (suc k) x e t = omega (arith, count_cons p y ys, count_there p ys k x e t)

-- what is there but once is first at its place
pub once_at : {X : Type 0} (p : X → Bool) (xs : List X) (k : ℕ) (x : X) → count_by p xs ≤ 1 → slice_get xs k ≡ Some x →
    p x ≡ true →
    position p xs ≡ Some k
once_at p [] k x n e t = cc
once_at p (y ∷ ys) zero x n e t = let same : y ≡ x = cc in position_yes p y ys (ap p same ∙ t)
once_at p (y ∷ ys) (suc k) x n e t = by_test (p y) refl (λ h. once_at p ys k x h e t)
  where
    by_test : (b : Bool) → p y ≡ b → (count_by p ys ≤ 1 → position p ys ≡ Some k) → position p (y ∷ ys) ≡ Some (suc k)
    by_test true h rest = absurd (omega (arith, count_cons p y ys, ap weight h, count_there p ys k x e t))
    by_test false h rest = position_no p y ys h ∙ ap (option_map suc) (rest (omega (arith, count_cons p y ys)))

-- what is counted is somewhere
abbrev pub Somewhere : {X : Type 0} → (X → Bool) → List X → Type 0
Somewhere {X} p xs = (k : ℕ) × (x : X) × (slice_get xs k ≡ Some x) × (p x ≡ true)

pub counted : {X : Type 0} (p : X → Bool) (xs : List X) → 1 ≤ count_by p xs → Somewhere p xs
counted p [] n = absurd (omega (arith, n))
counted p (y ∷ ys) n = by_test (p y) refl (λ h. counted p ys h)
  where
    by_test : (b : Bool) → p y ≡ b → (1 ≤ count_by p ys → Somewhere p ys) → Somewhere p (y ∷ ys)
    by_test true h rest = (0, y, refl, h)
    by_test false h rest =
        let found = rest (omega (arith, count_cons p y ys, ap weight h)) in
        (suc found.0, found.1, found.2, found.3)

-- ---- numbers in a row

pub count_low : (c a n : ℕ) → c < a → count_by (is c) (range_with_len a n) ≡ 0
count_low c a zero h = refl
count_low c a (suc n) h =
    let no : (a == c) ≡ false = grind (arith, nat_tests) in
    omega (
      arith,
      count_cons (is c) a (range_with_len (a + 1) n),
      ap weight no,
      count_low c (a + 1) n (omega (arith, h)),
    )

pub count_high : (c a n : ℕ) → a + n ≤ c → count_by (is c) (range_with_len a n) ≡ 0
count_high c a zero h = refl
count_high c a (suc n) h =
    let no : (a == c) ≡ false = grind (arith, nat_tests) in
    omega (
      arith,
      count_cons (is c) a (range_with_len (a + 1) n),
      ap weight no,
      count_high c (a + 1) n (omega (arith, h)),
    )

pub count_range : (c a n : ℕ) → a ≤ c → c < a + n → count_by (is c) (range_with_len a n) ≡ 1
count_range c a zero l h = absurd (omega (arith, l, h))
count_range c a (suc n) l h = by_test (a == c) refl (λ more. count_range c (a + 1) n more (omega (arith, h)))
  where
    by_test : (b : Bool) → (a == c) ≡ b → (a + 1 ≤ c → count_by (is c) (range_with_len (a + 1) n) ≡ 1) →
        count_by (is c) (range_with_len a (suc n)) ≡ 1
    by_test true t rest =
        let same : a ≡ c = is_same a c t in
        omega (
          arith,
          count_cons (is c) a (range_with_len (a + 1) n),
          ap weight t,
          count_low c (a + 1) n (omega
              (arith, same)),
        )
    by_test false t rest =
        let more : a + 1 ≤ c = grind (arith, nat_tests) in
        omega (arith, count_cons (is c) a (range_with_len (a + 1) n), ap weight t, rest more)
