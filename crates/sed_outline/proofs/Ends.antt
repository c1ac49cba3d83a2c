-- Where nothing leads back, a climb comes to an end.
use Rattle.std.proofs.Common.{◌≡◌, ◌<◌, ◌≤◌, ◌==◌, ◌||◌, ℕ, zero, suc, Bool, true, false, eqb, List, [], ◌∷◌, length, Option, Some, None, refl, arith}
use Rattle.std.specs.List.{list_any, AllByRecursion, IsDistinct}
use Rattle.std.specs.Option.{option_map_or}
use Rattle.std.proofs.lemmas.Map.Keys.{IsDistinct-cons}
use Rattle.std.proofs.lemmas.Map.Steps.{length-le_from_distinct_below}
use Rattle.std.proofs.lemmas.Bool.Decides.{nat_tests}
use Rattle.sed_classes.specs.Bases.{comes_to}
use Rattle.sed_value.proofs.Truths.{or_left, or_right}

-- the classes with a base that are met in at most so many steps
unfoldable pub walk : (ℕ → Option ℕ) → ℕ → ℕ → List ℕ
walk next zero at = []
walk next (suc n) at = option_map_or (λ base. at ∷ walk next n base) (next at) []

turned : (a b : ℕ) → (a == b) ≡ false → eqb b a ≡ false
turned a b e = grind (arith, nat_tests)

-- what is not come to is not met
apart : (next : ℕ → Option ℕ) (to n m at : ℕ) → n ≤ m → comes_to next to m (Some at) ≡ false →
    AllByRecursion (λ y. eqb to y ≡ false) (walk next n at)
unfolding walk
apart next to zero m at le e = tt
apart next to (suc n) zero at le e = absurd (omega arith)
apart next to (suc n) (suc m) at le e = by_next (λ base f. apart next to n m base (omega arith) f) (next at) (or_right (at == to) (comes_to next to m (next at)) e)
  where
    by_next : ((base : ℕ) → comes_to next to m (Some base) ≡ false → AllByRecursion (λ y. eqb to y ≡ false) (walk next n base)) →
        (o : Option ℕ) → comes_to next to m o ≡ false →
        AllByRecursion (λ y. eqb to y ≡ false) (option_map_or (λ base. at ∷ walk next n base) o [])
    by_next again None f = tt
    by_next again (Some base) f = (turned at to (or_left (at == to) (comes_to next to m (next at)) e), again base f)

-- none of those that are met is met twice
distinct : (next : ℕ → Option ℕ) (m : ℕ) → ((at : ℕ) → comes_to next at m (next at) ≡ false) → (n at : ℕ) → n ≤ suc m →
    IsDistinct eqb (walk next n at)
unfolding walk IsDistinct
distinct next m none zero at le = tt
distinct next m none (suc n) at le = by_next (λ base. distinct next m none n base (omega arith)) (next at) (none at)
  where
    by_next : ((base : ℕ) → IsDistinct eqb (walk next n base)) → (o : Option ℕ) → comes_to next at m o ≡ false → IsDistinct eqb (option_map_or (λ base. at ∷ walk next n base) o [])
    by_next again None e = tt
    by_next again (Some base) e = IsDistinct-cons eqb at (walk next n base) (apart next at n m base (omega arith) e) (again base)

-- each has a base
within : (next : ℕ → Option ℕ) (m : ℕ) → ((at base : ℕ) → next at ≡ Some base → at < m) → (n at q : ℕ) →
    list_any (eqb q) (walk next n at) ≡ true → q < m
unfolding walk
within next m inside zero at q e = cc
within next m inside (suc n) at q e = by_next (λ base h. within next m inside n base q h) (next at) refl e
  where
    by_or : (a b : Bool) → (a || b) ≡ true → (a ≡ true → q < m) → (b ≡ true → q < m) → q < m
    by_or true b e f g = f refl
    by_or false b e f g = g e

    by_next : ((base : ℕ) → list_any (eqb q) (walk next n base) ≡ true → q < m) → (o : Option ℕ) → next at ≡ o → list_any (eqb q) (option_map_or (λ base. at ∷ walk next n base) o []) ≡ true → q < m
    by_next again None same e = cc
    by_next again (Some base) same e =
        by_or
        (eqb q at)
        (list_any (eqb q) (walk next n base))
        e
        (λ h. let here : q ≡ at = grind (arith, nat_tests, h) in omega (arith, here, inside at base same))
        (λ h. again base h)

-- so a climb ends within as many steps as there are classes
pub ends : (next : ℕ → Option ℕ) (m : ℕ) → ((at : ℕ) → comes_to next at m (next at) ≡ false) →
    ((at base : ℕ) → next at ≡ Some base → at < m) → (at : ℕ) → length (walk next (suc m) at) < suc m
ends next m none inside at =
    omega (
      arith,
      length-le_from_distinct_below
          (walk next (suc m) at)
          m
          (distinct next m none (suc m) at (omega arith))
          (within next m inside (suc m) at),
    )

-- what passes from a base to each class based on it holds where a climb ends
pub climbed : (P : ℕ → Type 0) (next : ℕ → Option ℕ) → ((at : ℕ) → next at ≡ None → P at) →
    ((at base : ℕ) → next at ≡ Some base → P base → P at) → (n at : ℕ) → length (walk next n at) < n → P at
unfolding walk
climbed P next first on zero at le = absurd (omega arith)
climbed P next first on (suc n) at le = by_next (λ base h. climbed P next first on n base h) (next at) refl le
  where
    by_next : ((base : ℕ) → length (walk next n base) < n → P base) → (o : Option ℕ) → next at ≡ o → length (option_map_or (λ base. at ∷ walk next n base) o []) < suc n → P at
    by_next again None same le = first at same
    by_next again (Some base) same le = on at base same (again base (omega arith))
