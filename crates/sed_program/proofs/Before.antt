-- Each base stands before the classes based on it.
use Rattle.std.proofs.Common.{◌≡◌, ◌<◌, ◌≤◌, ◌+◌, ◌-◌, ◌==◌, ℕ, zero, suc, Bool, true, false, nat_lt, List, [], ◌∷◌, ◌++◌, length, slice_get, Some, None, refl, sym, ap, ◌∙◌, arith, append_assoc}
use Rattle.std.specs.List.{count_by}
use Rattle.std.proofs.lemmas.Option.{slice_get_within}
use Rattle.std.proofs.lemmas.Bool.Decides.{nat_tests}
use Rattle.sed_classes.specs.declared.kit_units.KitUnits.{KitUnits}
use Rattle.sed_classes.specs.Declarations.{declared_in}
use Rattle.sed_classes.specs.Bases.{base_of}
use Rattle.sed_classes.specs.Schema.{class_order, order_below, with_bases}
use Rattle.sed_program.specs.Types.{place_of}
use Rattle.sed_outline.specs.Fits.{Unbroken}
use Rattle.sed_outline.proofs.Bounds.{base_app, base_component, base_folder, base_obj, base_virtual}
use Rattle.sed_outline.proofs.Fitting.{inside}
use Rattle.sed_outline.proofs.Orders.{depth, others}
use Rattle.sed_program.proofs.OrderLists.{count_high, count_range, count_there, counted, is, is_itself, is_same, weight}
use Rattle.sed_program.proofs.OrderSums.{below_sum, low, sys_places, where_so}
use Rattle.sed_program.proofs.Within.{base_within}
use Rattle.sed_program.proofs.Lineages.{bases_few, depth_base, places}
use Rattle.sed_program.proofs.Order.{number, number_at, place_is}
use Rattle.std.proofs.lemmas.List.{append-nil as nothing_more}
use Rattle.sed_value.proofs.Lists.{stands_in_front as get_front}

-- ---- the order in two parts

order_parts : (units : List KitUnits) (j k : ℕ) → (rest : List ℕ) × (order_below units (j + k)
    ≡ order_below units k ++ rest)
order_parts units zero k =
    let e : 0 + k ≡ k = omega arith in
    ([], ap (order_below units) e ∙ sym (nothing_more (order_below units k)))
order_parts units (suc j) k =
    let e : suc j + k ≡ suc (j + k) = omega arith in
    let far = order_parts units j k in (
      far.0 ++ with_bases units (j + k),
      ap (order_below units) e
          ∙ ap (λ xs. xs ++ with_bases units (j + k)) far.1
          ∙ append_assoc (order_below units k) far.0 (with_bases units (j + k)),
    )

whole_parts : (units : List KitUnits) (k : ℕ) → k ≤ places units →
    (rest : List ℕ) × (class_order units ≡ order_below units k ++ rest)
whole_parts units k le =
    let e : places units ≡ (places units - k) + k = omega (arith, le) in
    let parts = order_parts units (places units - k) k in
    (parts.0, ap (order_below units) e ∙ parts.1)

get_within : {X : Type 0} (xs ys : List X) (k : ℕ) → k < length xs → slice_get (xs ++ ys) k ≡ slice_get xs k
get_within [] ys k h = absurd (omega (arith, h))
get_within (z ∷ zs) ys zero h = refl
get_within (z ∷ zs) ys (suc k) h = get_within zs ys k (omega (arith, h))

-- what stands in the first part has a number there
number_front : (units : List KitUnits) → Unbroken units → (k class : ℕ) → k ≤ places units →
    1 ≤ count_by (is class) (order_below units k) → number units class < length (order_below units k)
number_front units u k class le n =
    let found = counted (is class) (order_below units k) n in
    let same : found.1 ≡ class = is_same found.1 class found.3 in
    let parts = whole_parts units k le in
    let at : place_of units found.0 ≡ Some class =
    ap (λ xs. slice_get xs found.0) parts.1
    ∙ get_front (order_below units k) parts.0 found.0 found.1 found.2
    ∙ ap Some same in
    omega (arith, number_at units u found.0 class at, slice_get_within (order_below units k) found.0 found.1 found.2)

-- and what does not, has it behind that
number_behind : (units : List KitUnits) → Unbroken units → (k class : ℕ) → k ≤ places units → class < places units →
    count_by (is class) (order_below units k) ≡ 0 → length (order_below units k) ≤ number units class
number_behind units u k class le h n = by_test (nat_lt (number units class) (length (order_below units k))) refl
  where
    by_test : (b : Bool) → nat_lt (number units class) (length (order_below units k)) ≡ b →
        length (order_below units k) ≤ number units class
    by_test false t = grind (arith, nat_tests)
    by_test true t =
        let parts = whole_parts units k le in
        let within : number units class < length (order_below units k) = grind (arith, nat_tests) in
        let at : slice_get (order_below units k) (number units class) ≡ Some class =
        sym (get_within (order_below units k) parts.0 (number units class) within)
        ∙ sym (ap (λ xs. slice_get xs (number units class)) parts.1)
        ∙ place_is units u class h in
        absurd (omega (
          arith,
          n,
          count_there (is class) (order_below units k) (number units class) class at
              (is_itself class),
        ))

-- ---- who stands in the first part

low_least : (units : List KitUnits) (f : ℕ → ℕ) (k m i : ℕ) → i < m → nat_lt (depth units (5 + i)) k ≡ true →
    f (5 + i) ≤ low units f k m
unfolding low
low_least units f k zero i h t = absurd (omega (arith, h))
low_least units f k (suc m) i h t = by_test (i == m) refl (λ l. low_least units f k m i l t)
  where
    by_test : (b : Bool) → (i == m) ≡ b → (i < m → f (5 + i) ≤ low units f k m) → f (5 + i) ≤ low units f k (suc m)
    by_test true s rest =
        let same : i ≡ m = is_same i m s in
        let here : where_so (nat_lt (depth units (5 + m)) k) (f (5 + m)) ≡ f (5 + i) =
        sym (ap (λ x. where_so (nat_lt (depth units (5 + x)) k) (f (5 + x))) same)
        ∙ ap (λ b. where_so b (f (5 + i))) t in
        omega (arith, here)
    by_test false s rest = let l : i < m = grind (arith, nat_tests) in omega (arith, rest l)

low_nothing : (units : List KitUnits) (f : ℕ → ℕ) (k m : ℕ) → ((j : ℕ) →
    where_so (nat_lt (depth units (5 + j)) k) (f (5 + j)) ≡ 0) →
    low units f k m ≡ 0
unfolding low
low_nothing units f k zero h = refl
low_nothing units f k (suc m) h = omega (arith, low_nothing units f k m h, h m)

-- a class stands there with fewer bases
front_has : (units : List KitUnits) (k class : ℕ) → class < places units → depth units class < k →
    1 ≤ count_by (is class) (order_below units k)
front_has units k class h d = by_test (nat_lt class 5) refl
  where
    whole : count_by (is class) (order_below units k) ≡ count_by (is class) sys_places + low units (λ x. weight
        (is class x)) k (length (declared_in units))
    whole = below_sum units (λ x. weight (is class x)) k

    by_test : (b : Bool) → nat_lt class 5 ≡ b → 1 ≤ count_by (is class) (order_below units k)
    by_test true t =
        let l : class < 0 + 5 = grind (arith, nat_tests) in
        omega (arith, whole, count_range class 0 5 (omega arith) l)
    by_test false t =
        let l : 5 ≤ class = grind (arith, nat_tests) in
        let i : ℕ = class - 5 in
        let same : 5 + i ≡ class = omega (arith, l) in
        let few : nat_lt (depth units (5 + i)) k ≡ true = ap (λ x. nat_lt (depth units x) k) same
        ∙ tested (depth units class) d in
        let here : weight (is class (5 + i)) ≡ 1 = ap (λ x. weight (is class x)) same ∙ ap weight (is_itself class) in
        omega (
          arith,
          whole,
          here,
          low_least units (λ x. weight (is class x)) k (length (declared_in units)) i (omega
              (arith, same, h, others units)) few,
        )
      where
        tested : (m : ℕ) → m < k → nat_lt m k ≡ true
        tested m l = grind (arith, nat_tests)

-- and none that the units declare with as many or more
front_lacks : (units : List KitUnits) (k class : ℕ) → 5 ≤ class → k ≤ depth units class →
    count_by (is class) (order_below units k) ≡ 0
front_lacks units k class l d =
    omega (
      arith,
      below_sum units (λ x. weight (is class x)) k,
      count_high class 0 5 (omega (arith, l)),
      low_nothing units (λ x. weight (is class x)) k (length (declared_in units)) none,
    )
  where
    none : (j : ℕ) → where_so (nat_lt (depth units (5 + j)) k) (weight (is class (5 + j))) ≡ 0
    none j = by_test (is class (5 + j)) refl
      where
        zeros : (b : Bool) → where_so b 0 ≡ 0
        zeros true = refl
        zeros false = refl

        tested : (m : ℕ) → k ≤ m → nat_lt m k ≡ false
        tested m le = grind (arith, nat_tests)

        by_test : (b : Bool) → is class (5 + j) ≡ b → where_so (nat_lt (depth units (5 + j)) k) (weight b) ≡ 0
        by_test false t = zeros (nat_lt (depth units (5 + j)) k)
        by_test true t =
            let same : class ≡ 5 + j = sym (is_same (5 + j) class t) in
            let far : nat_lt (depth units (5 + j)) k ≡ false = sym (ap (λ x. nat_lt (depth units x) k) same)
            ∙ tested (depth units class) d in
            ap (λ b. where_so b 1) far

-- ---- the types of `sys`

sys_number : (units : List KitUnits) → Unbroken units → (c : ℕ) → slice_get sys_places c ≡ Some c → number units c ≡ c
sys_number units u c e =
    let parts = whole_parts units 0 (omega arith) in
    number_at units u c c (ap (λ xs. slice_get xs c) parts.1 ∙ get_front sys_places parts.0 c c e)

pub sys_numbers : (units : List KitUnits) → Unbroken units → (c : ℕ) → c < 5 → number units c ≡ c
sys_numbers units u zero h = sys_number units u 0 refl
sys_numbers units u (suc zero) h = sys_number units u 1 refl
sys_numbers units u (suc (suc zero)) h = sys_number units u 2 refl
sys_numbers units u (suc (suc (suc zero))) h = sys_number units u 3 refl
sys_numbers units u (suc (suc (suc (suc zero)))) h = sys_number units u 4 refl
sys_numbers units u (suc (suc (suc (suc (suc c))))) h = absurd (omega (arith, h))

sys_before : (units : List KitUnits) → Unbroken units → (class base at : ℕ) → base_of units class ≡ Some at →
    base_of units class ≡ Some base →
    class < 5 → at < class → number units base < number units class
sys_before units u class base at e f h l =
    let some : Some at ≡ Some base = sym e ∙ f in
    let same : at ≡ base = cc in
    omega (
      arith,
      sys_numbers units u class h,
      sys_numbers units u at (omega (arith, h, l)),
      ap (number units) same,
    )

-- ---- all classes

declared_before : (units : List KitUnits) → Unbroken units → (class base : ℕ) → base_of units class ≡ Some base →
    5 ≤ class →
    number units base < number units class
declared_before units u class base e l =
    let h : class < places units = inside units class base e in
    let k : ℕ = depth units class in
    let le : k ≤ places units = omega (arith, bases_few units u class h) in
    omega (
      arith,
      number_front units u k base le
          (front_has units k base (base_within units class base e) (omega (arith, depth_base units u class base e))),
      number_behind units u k class le h (front_lacks units k class l (omega arith)),
    )

pub base_before : (units : List KitUnits) → Unbroken units → (class base : ℕ) → base_of units class ≡ Some base →
    number units base < number units class
base_before units u zero base e = let none : None ≡ Some base = sym (base_obj units) ∙ e in cc
base_before units u (suc zero) base e = sys_before units u 1 base 0 (base_virtual units) e (omega arith) (omega arith)
base_before units u (suc (suc zero)) base e = sys_before units u 2 base 1 (base_component units) e (omega arith)
    (omega arith)
base_before units u (suc (suc (suc zero))) base e = sys_before units u 3 base 2 (base_app units) e (omega arith)
    (omega arith)
base_before units u (suc (suc (suc (suc zero)))) base e = sys_before units u 4 base 2 (base_folder units) e
    (omega arith) (omega arith)
base_before units u (suc (suc (suc (suc (suc i))))) base e = declared_before units u (suc (suc (suc (suc
    (suc i))))) base e (omega arith)
