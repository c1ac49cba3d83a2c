-- Sums over the order of classes.
use Rattle.std.proofs.Common.{◌≡◌, ◌<◌, ◌+◌, ◌==◌, ℕ, zero, suc, Bool, true, false, nat_lt, if◌then◌else◌, List, [], ◌∷◌, length, refl, sym, ap, ◌∙◌, arith}
use Rattle.std.specs.List.{sum_by, range_with_len}
use Rattle.std.proofs.lemmas.List.Sums.{sum_by-append, sum_by-cons}
use Rattle.std.proofs.lemmas.Bool.Decides.{nat_tests}
use Rattle.sed_classes.specs.declared.kit_units.KitUnits.{KitUnits}
use Rattle.sed_classes.specs.Declarations.{all_classes, declared_in}
use Rattle.sed_classes.specs.Schema.{at_if, class_order, first_with, order_below, with_bases}
use Rattle.sed_outline.proofs.Orders.{depth, others}

-- a number, where a test holds
abbrev pub where_so : Bool → ℕ → ℕ
where_so b n = if b then n else 0

-- the sum over the first so many classes that the units declare, of those with fewer bases
unfoldable pub low : List KitUnits → (ℕ → ℕ) → ℕ → ℕ → ℕ
low units f k zero = 0
low units f k (suc i) = low units f k i + where_so (nat_lt (depth units (5 + i)) k) (f (5 + i))

at_sum : (f : ℕ → ℕ) (b : Bool) (c : ℕ) → sum_by f (at_if b c) ≡ where_so b (f c)
at_sum f true c = omega arith
at_sum f false c = refl

one_more : (d n k : ℕ) → where_so (d == n) k + where_so (nat_lt d n) k ≡ where_so (nat_lt d (suc n)) k
one_more d n k = by_tests (d == n) (nat_lt d n) (nat_lt d (suc n)) refl refl refl
  where
    by_tests : (a b c : Bool) → (d == n) ≡ a → nat_lt d n ≡ b → nat_lt d (suc n) ≡ c →
        where_so a k + where_so b k ≡ where_so c k
    by_tests true true c p q r = absurd (grind (arith, nat_tests))
    by_tests true false true p q r = omega arith
    by_tests true false false p q r = absurd (grind (arith, nat_tests))
    by_tests false true true p q r = omega arith
    by_tests false true false p q r = absurd (grind (arith, nat_tests))
    by_tests false false true p q r = absurd (grind (arith, nat_tests))
    by_tests false false false p q r = omega arith

first_sum : (units : List KitUnits) (f : ℕ → ℕ) (n i : ℕ) →
    sum_by f (first_with units n i) + low units f n i ≡ low units f (suc n) i
unfolding low
first_sum units f n zero = refl
first_sum units f n (suc i) =
    let whole : sum_by f (first_with units n (suc i)) ≡ sum_by f (first_with units n i) + where_so (depth units
    (5 + i) == n) (f (5 + i)) =
    sum_by-append f (first_with units n i) (at_if (depth units (5 + i) == n) (5 + i))
    ∙ ap (λ k. sum_by f (first_with units n i) + k) (at_sum f (depth units (5 + i) == n) (5 + i)) in
    omega (arith, whole, first_sum units f n i, one_more (depth units (5 + i)) n (f (5 + i)))

low_none : (units : List KitUnits) (f : ℕ → ℕ) (i : ℕ) → low units f 0 i ≡ 0
unfolding low
low_none units f zero = refl
low_none units f (suc i) = omega (arith, low_none units f i, none (depth units (5 + i)))
  where
    none : (d : ℕ) → where_so (nat_lt d 0) (f (5 + i)) ≡ 0
    none d = by_test (nat_lt d 0) refl
      where
        by_test : (b : Bool) → nat_lt d 0 ≡ b → where_so b (f (5 + i)) ≡ 0
        by_test true e = absurd (grind (arith, nat_tests))
        by_test false e = refl

abbrev pub sys_places : List ℕ
sys_places = 0 ∷ 1 ∷ 2 ∷ 3 ∷ 4 ∷ []

pub below_sum : (units : List KitUnits) (f : ℕ → ℕ) (n : ℕ) →
    sum_by f (order_below units n) ≡ sum_by f sys_places + low units f n (length (declared_in units))
below_sum units f zero = omega (arith, low_none units f (length (declared_in units)))
below_sum units f (suc n) =
    sum_by-append f (order_below units n) (with_bases units n)
    ∙ omega (arith, below_sum units f n, first_sum units f n (length (declared_in units)))

-- ---- where all have fewer bases

range_push : (f : ℕ → ℕ) (a n : ℕ) → sum_by f (range_with_len a (suc n)) ≡ sum_by f (range_with_len a n) + f (a + n)
range_push f a zero =
    let e : a ≡ a + 0 = omega arith in
    omega (arith, sum_by-cons f a [], ap f e)
range_push f a (suc n) =
    let e : a + 1 + n ≡ a + suc n = omega arith in
    omega (
      arith,
      sum_by-cons f a (range_with_len (a + 1) (suc n)),
      sum_by-cons f a (range_with_len (a + 1) n),
      range_push f (a + 1) n,
      ap f e,
    )

low_all : (units : List KitUnits) (f : ℕ → ℕ) (k i : ℕ) → ((j : ℕ) → j < i → depth units (5 + j) < k) →
    low units f k i ≡ sum_by f (range_with_len 5 i)
unfolding low
low_all units f k zero h = refl
low_all units f k (suc i) h =
    let yes : nat_lt (depth units (5 + i)) k ≡ true = tested (depth units (5 + i)) (h i (omega arith)) in
    omega (
      arith,
      low_all units f k i (λ j l. h j (omega (arith, l))),
      ap (λ b. where_so b (f (5 + i))) yes,
      range_push f 5 i,
    )
  where
    tested : (d : ℕ) → d < k → nat_lt d k ≡ true
    tested d l = grind (arith, nat_tests)

range_front : (f : ℕ → ℕ) (n : ℕ) → sum_by f (range_with_len 0 (5 + n))
    ≡ sum_by f sys_places + sum_by f (range_with_len 5 n)
range_front f n =
    let same : 5 + n ≡ suc (suc (suc (suc (suc n)))) = omega arith in
    ap (λ k. sum_by f (range_with_len 0 k)) same ∙ sum_by-append f sys_places (range_with_len 5 n)

pub whole_sum : (units : List KitUnits) (f : ℕ → ℕ) →
    ((j : ℕ) → j < length (declared_in units) → depth units (5 + j) < length (all_classes units)) →
    sum_by f (class_order units) ≡ sum_by f (range_with_len 0 (length (all_classes units)))
whole_sum units f h =
    below_sum units f (length (all_classes units))
    ∙ ap (λ k. sum_by f sys_places + k) (low_all units f (length (all_classes units)) (length (declared_in units)) h)
    ∙ sym (range_front f (length (declared_in units)))
    ∙ ap (λ k. sum_by f (range_with_len 0 k)) (sym (others units))
