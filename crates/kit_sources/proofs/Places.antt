-- A list that has each number below a bound once is as long as the bound.
use Rattle.std.proofs.Common.{◌≡◌, ◌+◌, ◌<◌, ◌≤◌, ℕ, zero, suc, Bool, true, false, List, [], ◌∷◌, length, cond, refl, sym, ap, subst, ◌∙◌, arith, nat_eq}
use Rattle.std.specs.Prelude.{◌≢◌, AllPairs, Contains}
use Rattle.kit_manifest.specs.Order.{IsPermutationOf}

-- how often a number stands in a list
times : ℕ → List ℕ → ℕ
times n [] = 0
times n (x ∷ xs) = cond (nat_eq x n) (suc (times n xs)) (times n xs)

-- how often the numbers below a bound stand there
total : ℕ → List ℕ → ℕ
total zero xs = 0
total (suc n) xs = total n xs + times n xs

total_none : (n : ℕ) → total n [] ≡ 0
unfolding total times
total_none zero = refl
total_none (suc n) = omega (arith, total_none n)

times_other : (n x : ℕ) (xs : List ℕ) → x ≢ n → times n (x ∷ xs) ≡ times n xs
unfolding times
times_other n x xs other = grind arith

times_same : (n : ℕ) (xs : List ℕ) → times n (n ∷ xs) ≡ suc (times n xs)
unfolding times
times_same n xs = grind arith

total_above : (n x : ℕ) (xs : List ℕ) → n ≤ x → total n (x ∷ xs) ≡ total n xs
unfolding total
total_above zero x xs above = refl
total_above (suc n) x xs above = omega (arith, total_above n x xs (omega arith), times_other n x xs (λ same. absurd (omega arith)))

total_below : (n x : ℕ) (xs : List ℕ) → x < n → total n (x ∷ xs) ≡ suc (total n xs)
unfolding total
total_below zero x xs below = absurd (omega arith)
total_below (suc n) x xs below = by_case (nat_eq x n) refl (λ small. total_below n x xs small) where
  by_case : (b : Bool) → nat_eq x n ≡ b → (x < n → total n (x ∷ xs) ≡ suc (total n xs)) → total (suc n) (x ∷ xs) ≡ suc (total (suc n) xs)
  by_case true is less =
      let same : x ≡ n = grind arith in
      let above : total n (x ∷ xs) ≡ total n xs = total_above n x xs (omega arith) in
      let one : times n (x ∷ xs) ≡ suc (times n xs) = subst (λ y. times n (y ∷ xs) ≡ suc (times n xs)) (sym same) (times_same n xs) in
      omega (arith, above, one)
  by_case false is less =
      let other : x ≢ n = λ same. grind arith in
      let small : x < n = omega (arith, other) in
      omega (arith, less small, times_other n x xs other)

total_length : (n : ℕ) (xs : List ℕ) → ((i : ℕ) → Contains xs i → i < n) → total n xs ≡ length xs
total_length n [] within = total_none n
total_length n (x ∷ xs) within =
    total_below n x xs (within x (0, omega arith, refl))
    ∙ ap suc (total_length n xs (λ i there. within i (suc there.0, omega (arith, there.1), there.2)))

times_absent : (n : ℕ) (xs : List ℕ) → (Contains xs n → ⊥) → times n xs ≡ 0
unfolding times
times_absent n [] absent = refl
times_absent n (x ∷ xs) absent =
    times_other n x xs (λ same. absent (0, omega arith, same)) ∙ times_absent n xs (λ there. absent (suc there.0, omega (arith, there.1), there.2))

times_once : (n : ℕ) (xs : List ℕ) → AllPairs (λ i j. i ≢ j) xs → Contains xs n → times n xs ≡ 1
times_once n [] once there = absurd (omega (arith, there.1))
times_once n (x ∷ xs) once (zero, within, is) =
    let same : n ≡ x = sym is in
    let absent : times n xs ≡ 0 = times_absent n xs (λ there. once 0 (suc there.0) n (omega arith) (omega (arith, there.1)) (is ∙ sym there.2)) in
    subst (λ y. times n (y ∷ xs) ≡ 1) same (times_same n xs ∙ ap suc absent)
times_once n (x ∷ xs) once (suc k, within, is) =
    times_other n x xs (λ same. once 0 (suc k) n (omega arith) within (same ∙ sym is))
    ∙ times_once n xs (λ i j d before inside. once (suc i) (suc j) d (omega (arith, before)) (omega (arith, inside))) (k, omega (arith, within), is)

total_each : (n m : ℕ) (xs : List ℕ) → n ≤ m → ((i : ℕ) → i < m → times i xs ≡ 1) → total n xs ≡ n
unfolding total
total_each zero m xs within each = refl
total_each (suc n) m xs within each = omega (arith, total_each n m xs (omega arith) each, each n (omega arith))

pub permutation_length : (n : ℕ) (order : List ℕ) → IsPermutationOf n order → length order ≡ n
permutation_length n order is =
    sym (total_length n order is.within) ∙ total_each n n order (omega arith) (λ i below. times_once i order is.once (is.each i below))
