-- The order of classes has each place once: numbers and places.
use Rattle.std.proofs.Common.{◌≡◌, ◌<◌, ◌≤◌, ◌+◌, ℕ, zero, suc, Bool, true, false, nat_lt, List, [], ◌∷◌, length, slice_get, Some, refl, sym, ap, ◌∙◌, arith}
use Rattle.std.specs.Prelude.{unwrap_or}
use Rattle.std.specs.List.{count_by, sum_by, range_with_len}
use Rattle.std.proofs.lemmas.List.Sums.{sum_by-cons}
use Rattle.std.proofs.lemmas.Option.{slice_get-get_or, slice_get_within}
use Rattle.std.proofs.lemmas.Bool.Decides.{nat_tests}
use Rattle.sed_classes.specs.declared.kit_units.KitUnits.{KitUnits}
use Rattle.sed_classes.specs.Schema.{class_order, type_number}
use Rattle.sed_program.specs.Types.{place_of}
use Rattle.sed_outline.specs.Fits.{Unbroken}
use Rattle.sed_outline.proofs.Orders.{others}
use Rattle.sed_program.proofs.OrderLists.{count_high, count_range, count_there, counted, is, is_itself, is_same, once_at, position_at, weight}
use Rattle.sed_program.proofs.OrderSums.{whole_sum}
use Rattle.sed_program.proofs.Lineages.{bases_few, places}

-- the number of the class at a place, which is there
abbrev pub number : List KitUnits → ℕ → ℕ
number units class = unwrap_or (type_number units class) 0

-- a sum over the order is one over all places
pub order_sum : (units : List KitUnits) → Unbroken units → (f : ℕ → ℕ) →
    sum_by f (class_order units) ≡ sum_by f (range_with_len 0 (places units))
order_sum units u f =
    whole_sum units f (λ j h. bases_few units u (5 + j) (omega (arith, h, others units)))

ones : (xs : List ℕ) → sum_by (λ (x : ℕ). 1) xs ≡ length xs
ones [] = refl
ones (x ∷ xs) = omega (arith, sum_by-cons (λ (x : ℕ). 1) x xs, ones xs)

range_length : (a n : ℕ) → length (range_with_len a n) ≡ n
range_length a zero = refl
range_length a (suc n) = ap suc (range_length (a + 1) n)

pub order_len : (units : List KitUnits) → Unbroken units → length (class_order units) ≡ places units
order_len units u =
    sym (ones (class_order units))
    ∙ order_sum units u (λ (x : ℕ). 1)
    ∙ ones (range_with_len 0 (places units))
    ∙ range_length 0 (places units)

-- ---- each place once

order_once : (units : List KitUnits) → Unbroken units → (class : ℕ) → class < places units →
    count_by (is class) (class_order units) ≡ 1
order_once units u class h =
    order_sum units u (λ x. weight (is class x)) ∙ count_range class 0 (places units) (omega arith) (omega (arith, h))

order_none : (units : List KitUnits) → Unbroken units → (class : ℕ) → places units ≤ class →
    count_by (is class) (class_order units) ≡ 0
order_none units u class h =
    order_sum units u (λ x. weight (is class x)) ∙ count_high class 0 (places units) (omega (arith, h))

-- what stands in the order is a place
pub order_within : (units : List KitUnits) → Unbroken units → (k class : ℕ) → place_of units k ≡ Some class →
    class < places units
order_within units u k class e = by_test (nat_lt class (places units)) refl
  where
    by_test : (b : Bool) → nat_lt class (places units) ≡ b → class < places units
    by_test true t = grind (arith, nat_tests)
    by_test false t =
        let none : count_by (is class) (class_order units) ≡ 0 = order_none units u class (grind (arith, nat_tests)) in
        absurd (omega (arith, none, count_there (is class) (class_order units) k class e (is_itself class)))

pub place_in : (units : List KitUnits) → Unbroken units → (k class : ℕ) → place_of units k ≡ Some class →
    (k < places units) × (class < places units) × (type_number units class ≡ Some k)
place_in units u k class e =
    let h : class < places units = order_within units u k class e in
    let once : count_by (is class) (class_order units) ≤ 1 = omega (arith, order_once units u class h) in
    let within : k < length (class_order units) = slice_get_within (class_order units) k class e in (
      omega (arith, within, order_len units u),
      h,
      once_at (is class) (class_order units) k class once e (is_itself class),
    )

pub number_is : (units : List KitUnits) → Unbroken units → (class : ℕ) → class < places units →
    type_number units class ≡ Some (number units class)
number_is units u class h =
    let found = counted (is class) (class_order units) (omega (arith, order_once units u class h)) in
    let same : found.1 ≡ class = is_same found.1 class found.3 in
    let at : place_of units found.0 ≡ Some class = found.2 ∙ ap Some same in
    let is_there : type_number units class ≡ Some found.0 = (place_in units u found.0 class at).2 in
    is_there ∙ ap Some (sym (ap (λ o. unwrap_or o 0) is_there))

pub place_is : (units : List KitUnits) → Unbroken units → (class : ℕ) → class < places units →
    place_of units (number units class) ≡ Some class
place_is units u class h =
    let found = position_at (is class) (class_order units) (number units class) (number_is units u class h) in
    found.1 ∙ ap Some (is_same found.0 class found.2)

pub number_in : (units : List KitUnits) → Unbroken units → (class : ℕ) → class < places units →
    number units class < places units
number_in units u class h = (place_in units u (number units class) class (place_is units u class h)).0

pub placed : (units : List KitUnits) → Unbroken units → (k : ℕ) → k < places units →
    (class : ℕ) × (place_of units k ≡ Some class)
placed units u k h =
    by_list (class_order units) (omega (arith, order_len units u, h))
  where
    by_list : (xs : List ℕ) → k < length xs → (class : ℕ) × (slice_get xs k ≡ Some class)
    by_list [] l = absurd (omega (arith, l))
    by_list (x ∷ xs) l = (_, slice_get-get_or (x ∷ xs) k x l)

-- the number of what stands at a number is that number
pub number_at : (units : List KitUnits) → Unbroken units → (k class : ℕ) → place_of units k ≡ Some class →
    number units class ≡ k
number_at units u k class e = ap (λ o. unwrap_or o 0) (place_in units u k class e).2

-- no two places have one number
pub number_apart : (units : List KitUnits) → Unbroken units → (c d : ℕ) → c < places units → d < places units →
    number units c ≡ number units d → c ≡ d
number_apart units u c d h k e =
    let same : Some c ≡ Some d = sym (place_is units u c h) ∙ ap (place_of units) e ∙ place_is units u d k in
    cc
