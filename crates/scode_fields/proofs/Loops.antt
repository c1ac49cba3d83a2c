-- Tests of all items with their numbers, item by item.
use Rattle.std.proofs.Common.{◌≡◌, ℕ, zero, suc, ◌+◌, ◌<◌, ◌≤◌, ◌&&◌, Bool, true, false, List, [], ◌∷◌, length, drop, refl, ap, sym, ◌∙◌, get_or, arith, slice_get, Some}
use Rattle.std.specs.List.{list_all, enumerate_from}
use Rattle.std.proofs.lemmas.Bool.{and_from, and_left, and_parts, and_right}
use Rattle.std.proofs.lemmas.List.{drop_all}
use Rattle.scode_tables.proofs.Rests.{next_left}

-- the test of those that are numbered from here on
abbrev pub all_from : {A : Type 0} → (ℕ → A → Bool) → ℕ → List A → Bool
all_from {A} test i xs = list_all (λ (at : ℕ × A). test at.0 at.1) (enumerate_from i xs)

pub all_next : {A : Type 0} (test : ℕ → A → Bool) (i : ℕ) (xs : List A) (x : A) → i < length xs → x ≡ get_or xs i x
    → all_from test i (drop i xs) ≡ (test i x && all_from test (i + 1) (drop (i + 1) xs))
all_next {A} test i xs x within is = ap (λ (ys : List A). all_from test i ys) (next_left i xs x within is)

pub all_over : {A : Type 0} (test : ℕ → A → Bool) (i : ℕ) (xs : List A) → length xs ≤ i
    → all_from test i (drop i xs) ≡ true
all_over {A} test i xs past = ap (λ (ys : List A). all_from test i ys) (drop_all i xs past)

pub all_fails : {A : Type 0} (test : ℕ → A → Bool) (i : ℕ) (xs : List A) (x : A) → i < length xs → x ≡ get_or xs i x
    → test i x ≡ false → all_from test i (drop i xs) ≡ false
all_fails {A} test i xs x within is fails =
    all_next test i xs x within is ∙ ap (λ (b : Bool). b && all_from test (i + 1) (drop (i + 1) xs)) fails

pub all_goes_on : {A : Type 0} (test : ℕ → A → Bool) (i : ℕ) (xs : List A) (x : A) → i < length xs → x ≡ get_or xs i x
    → test i x ≡ true → all_from test i (drop i xs) ≡ all_from test (i + 1) (drop (i + 1) xs)
all_goes_on {A} test i xs x within is holds =
    all_next test i xs x within is ∙ ap (λ (b : Bool). b && all_from test (i + 1) (drop (i + 1) xs)) holds

-- the same of a test that asks no number
pub each_fails : {A : Type 0} (test : A → Bool) (i : ℕ) (xs : List A) (x : A) → i < length xs → x ≡ get_or xs i x
    → test x ≡ false → list_all test (drop i xs) ≡ false
each_fails {A} test i xs x within is fails =
    ap (λ (ys : List A). list_all test ys) (next_left i xs x within is)
    ∙ ap (λ (b : Bool). b && list_all test (drop (i + 1) xs)) fails

pub each_goes_on : {A : Type 0} (test : A → Bool) (i : ℕ) (xs : List A) (x : A) → i < length xs → x ≡ get_or xs i x
    → test x ≡ true → list_all test (drop i xs) ≡ list_all test (drop (i + 1) xs)
each_goes_on {A} test i xs x within is holds =
    ap (λ (ys : List A). list_all test ys) (next_left i xs x within is)
    ∙ ap (λ (b : Bool). b && list_all test (drop (i + 1) xs)) holds

pub each_over : {A : Type 0} (test : A → Bool) (i : ℕ) (xs : List A) → length xs ≤ i → list_all test (drop i xs) ≡ true
each_over {A} test i xs past = ap (λ (ys : List A). list_all test ys) (drop_all i xs past)

-- ---- tests of all items with their numbers, by the items

pub all_from_false : {A : Type 0} (test : ℕ → A → Bool) (i : ℕ) (xs : List A) (k : ℕ) (x : A) → slice_get xs k ≡ Some x
    → test (i + k) x ≡ false → all_from test i xs ≡ false
all_from_false {A} test i [] k x is fails = cc
all_from_false {A} test i (y ∷ ys) zero x is fails =
    let same : y ≡ x = cc in
    let zeroth : i ≡ i + 0 = omega arith in
    and_left _ _ (ap (λ (n : ℕ). test n y) zeroth ∙ ap (λ (z : A). test (i + 0) z) same ∙ fails)
all_from_false {A} test i (y ∷ ys) (suc k) x is fails =
    let next : i + 1 + k ≡ i + suc k = omega arith in
    and_right _ _ (all_from_false test (i + 1) ys k x is (ap (λ (n : ℕ). test n x) next ∙ fails))

pub all_from_at : {A : Type 0} (test : ℕ → A → Bool) (i : ℕ) (xs : List A) (k : ℕ) (x : A) → slice_get xs k ≡ Some x
    → all_from test i xs ≡ true → test (i + k) x ≡ true
all_from_at {A} test i [] k x is all = cc
all_from_at {A} test i (y ∷ ys) zero x is all =
    let same : y ≡ x = cc in
    let zeroth : i + 0 ≡ i = omega arith in
    ap (λ (n : ℕ). test n x) zeroth ∙ ap (λ (z : A). test i z) (sym same) ∙ (and_parts _ _ all).0
all_from_at {A} test i (y ∷ ys) (suc k) x is all =
    let next : i + suc k ≡ i + 1 + k = omega arith in
    ap (λ (n : ℕ). test n x) next ∙ all_from_at test (i + 1) ys k x is (and_parts _ _ all).1

pub all_from_each : {A : Type 0} (test : ℕ → A → Bool) (i : ℕ) (xs : List A)
    → ((k : ℕ) (x : A) → slice_get xs k ≡ Some x → test (i + k) x ≡ true) → all_from test i xs ≡ true
all_from_each {A} test i [] each = refl
all_from_each {A} test i (y ∷ ys) each =
    let zeroth : i ≡ i + 0 = omega arith in
    and_from _ _ (ap (λ (n : ℕ). test n y) zeroth ∙ each 0 y refl)
    (all_from_each test (i + 1) ys (λ k x is.
    let next : i + 1 + k ≡ i + suc k = omega arith in ap (λ (n : ℕ). test n x) next ∙ each (suc k) x is))

-- ---- tests of all items

pub list_all_each : {A : Type 0} (test : A → Bool) (xs : List A) (d : A)
    → ((i : ℕ) → i < length xs → test (get_or xs i d) ≡ true) → list_all test xs ≡ true
list_all_each {A} test [] d each = refl
list_all_each {A} test (x ∷ xs) d each =
    and_from _ _ (each 0 (omega arith)) (list_all_each test xs d (λ i w. each (suc i) (omega arith)))

pub list_all_get : {A : Type 0} (test : A → Bool) (xs : List A) (d : A) (i : ℕ) → i < length xs
    → list_all test xs ≡ true
    → test (get_or xs i d) ≡ true
list_all_get {A} test [] d i within all = absurd (omega arith)
list_all_get {A} test (x ∷ xs) d zero within all = (and_parts _ _ all).0
list_all_get {A} test (x ∷ xs) d (suc i) within all = list_all_get test xs d i (omega arith) (and_parts _ _ all).1
