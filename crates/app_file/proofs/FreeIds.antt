-- The least free id, where fewer are live than there may be.
use Rattle.std.proofs.Common.{ℕ, zero, suc, ◌≡◌, ◌≢◌, ◌<◌, ◌≤◌, ◌+◌, ◌⊎◌, Bool, true, false, inl, inr, refl, sym, ◌∙◌, ap, arith}
use Rattle.std.specs.Prelude.{List, [], ◌∷◌, length, if◌then◌else◌}
use Rattle.std.specs.FinMap as map
use Rattle.std.proofs.lemmas.Bool.{cases_eq}
use Rattle.comp_tree.specs.Application.{ById, is_live, most_components}
use Rattle.comp_tree.specs.Order.{free_from, least_free}
use Rattle.comp_tree.proofs.ShapeLemmas.{In, Once}
use Rattle.comp_tree.proofs.SubtreeLemmas.{once_fits}

-- the ids below a number
ids_below : ℕ → List ℕ
ids_below zero = []
ids_below (suc n) = n ∷ ids_below n

below_in : (n x : ℕ) → In x (ids_below n) → x < n
unfolding ids_below
below_in zero x never = absurd never
below_in (suc n) x (inl e) = omega (arith, e)
below_in (suc n) x (inr h) = let lt = below_in n x h in omega arith

below_once : (n : ℕ) → Once (ids_below n)
unfolding ids_below
below_once zero = tt
below_once (suc n) = (λ h. let lt = below_in n n h in omega arith, below_once n)

below_many : (n : ℕ) → length (ids_below n) ≡ n
unfolding ids_below
below_many zero = refl
below_many (suc n) = ap suc (below_many n)

module _ (all : ById) where
  -- all below a number are live, or one is free
  all_or_free : (n : ℕ) → ((q : ℕ) → q < n → is_live all q ≡ true) ⊎ ((q : ℕ) × (q < n) × (is_live all q ≡ false))
  all_or_free zero = inl (λ q lt. absurd (omega arith))
  all_or_free (suc n) = elim (all_or_free n) [
    | inr found ↦ inr (found.0, let lt = found.1 in omega arith, found.2)
    | inl live ↦ last (is_live all n) refl live
  ]
    where
      last : (b : Bool) → is_live all n ≡ b → ((q : ℕ) → q < n → is_live all q ≡ true) → ((q : ℕ) → q < suc n → is_live all q ≡ true) ⊎ ((q : ℕ) × (q < suc n) × (is_live all q ≡ false))
      last false is live = inr (n, omega arith, is)
      last true is live = inl (λ q lt. elim (cases_eq q n) [ inl e ↦ ap (is_live all) e ∙ is | inr ne ↦ live q (omega arith) ])

  one_free : (n : ℕ) → map.len all < n → (q : ℕ) × (q < n) × (is_live all q ≡ false)
  one_free n few = elim (all_or_free n) [
    | inr found ↦ found
    | inl live ↦
        let fits = once_fits (ids_below n) all (below_once n) (λ x h. live x (below_in n x h)) in
        let many = below_many n in
        absurd (omega arith)
  ]

  first_free : (n a : ℕ) → (q : ℕ) → a ≤ q → q < a + n → is_live all q ≡ false → (is_live all (free_from all n a) ≡ false) × (free_from all n a < a + n)
  unfolding free_from
  first_free zero a q le lt free = absurd (omega arith)
  first_free (suc n) a q le lt free = at (is_live all a) refl (λ ne. first_free n (suc a) q (omega (arith, le, ne)) (omega (arith, lt)) free)
    where
      at : (b : Bool) → is_live all a ≡ b → (a ≢ q → (is_live all (free_from all n (suc a)) ≡ false) × (free_from all n (suc a) < suc a + n))
          → (is_live all (if b then free_from all n (suc a) else a) ≡ false) × ((if b then free_from all n (suc a) else a) < a + suc n)
      at false is more = (is, omega arith)
      at true is more =
          let r = more (λ e. let no : true ≡ false = sym is ∙ ap (is_live all) e ∙ free in cc) in
          (r.0, let lt = r.1 in omega arith)

  pub least_is_free : map.len all < most_components → (is_live all (least_free all) ≡ false) × (least_free all < most_components)
  least_is_free few =
      let found = one_free most_components few in
      let r = first_free most_components 0 found.0 (omega arith) (let lt = found.1 in omega arith) found.2 in
      (r.0, let lt = r.1 in omega arith)
