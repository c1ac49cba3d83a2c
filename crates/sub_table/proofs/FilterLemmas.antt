-- What filters keep, of any list.
use Rattle.std.proofs.Common.{◌≡◌, ℕ, zero, suc, ◌≤◌, Bool, true, false, not, ◌&&◌, List, [], ◌∷◌, ◌++◌, length, take, drop, get_or, Some, is_some, refl, sym, ap, ◌∙◌, ⊎_elim, arith}
use Rattle.std.specs.Prelude.{filter, find}
use Rattle.std.specs.List.{All, AllWithin, list_any}
use Rattle.std.specs.List.Sorted.{IsPartitionedBy}
use Rattle.std.proofs.lemmas.Bool.{cases_Bool, cond-true, cond-false, not_from_true, not_from_false, false_from_ne_true, false≢true, and_from, and_left, and_right}
use Rattle.std.proofs.lemmas.List.Elements.{All-head, All-tail}

module _ {X : Type 0} where
  pub filter_yes : (p : X → Bool) (x : X) (xs : List X) → p x ≡ true → filter p (x ∷ xs) ≡ x ∷ filter p xs
  filter_yes p x xs e = cond-true (p x) (x ∷ filter p xs) (filter p xs) e

  pub filter_no : (p : X → Bool) (x : X) (xs : List X) → p x ≡ false → filter p (x ∷ xs) ≡ filter p xs
  filter_no p x xs e = cond-false (p x) (x ∷ filter p xs) (filter p xs) e

  pub filter_none : (p : X → Bool) (xs : List X) → All (λ x. p x ≡ false) xs → filter p xs ≡ []
  filter_none p [] none = refl
  filter_none p (x ∷ xs) none =
      filter_no p x xs (All-head (λ y. p y ≡ false) x xs none) ∙ filter_none p xs (All-tail (λ y. p y ≡ false) x xs none)

  pub filter_all : (p : X → Bool) (xs : List X) → All (λ x. p x ≡ true) xs → filter p xs ≡ xs
  filter_all p [] all = refl
  filter_all p (x ∷ xs) all =
      filter_yes p x xs (All-head (λ y. p y ≡ true) x xs all) ∙ ap (λ ys. x ∷ ys) (filter_all p xs (All-tail (λ y. p y ≡ true) x xs all))

  -- filters in either order
  pub filter_swap : (p q : X → Bool) (xs : List X) → filter p (filter q xs) ≡ filter q (filter p xs)
  filter_swap p q [] = refl
  filter_swap p q (x ∷ xs) =
      ⊎_elim
      (λ (py : p x ≡ true). ⊎_elim
      (λ (qy : q x ≡ true). ap (filter p) (filter_yes q x xs qy) ∙ filter_yes p x (filter q xs) py ∙ ap (λ ys. x ∷ ys) (filter_swap p q xs)
      ∙ sym (ap (filter q) (filter_yes p x xs py) ∙ filter_yes q x (filter p xs) qy))
      (λ (qn : q x ≡ false). ap (filter p) (filter_no q x xs qn) ∙ filter_swap p q xs
      ∙ sym (ap (filter q) (filter_yes p x xs py) ∙ filter_no q x (filter p xs) qn))
      (cases_Bool (q x)))
      (λ (pn : p x ≡ false). ⊎_elim
      (λ (qy : q x ≡ true). ap (filter p) (filter_yes q x xs qy) ∙ filter_no p x (filter q xs) pn ∙ filter_swap p q xs
      ∙ sym (ap (filter q) (filter_no p x xs pn)))
      (λ (qn : q x ≡ false). ap (filter p) (filter_no q x xs qn) ∙ filter_swap p q xs
      ∙ sym (ap (filter q) (filter_no p x xs pn)))
      (cases_Bool (q x)))
      (cases_Bool (p x))

  -- two tests that agree on what a filter keeps
  pub filter_where : (g p q : X → Bool) → ((x : X) → g x ≡ true → p x ≡ q x) → (xs : List X) → filter p (filter g xs) ≡ filter q (filter g xs)
  filter_where g p q same [] = refl
  filter_where g p q same (x ∷ xs) =
      ⊎_elim
      (λ (gy : g x ≡ true). ap (filter p) (filter_yes g x xs gy)
      ∙ (⊎_elim
      (λ (py : p x ≡ true). filter_yes p x (filter g xs) py ∙ ap (λ ys. x ∷ ys) (filter_where g p q same xs) ∙ sym (filter_yes q x (filter g xs) (sym (same x gy) ∙ py)))
      (λ (pn : p x ≡ false). filter_no p x (filter g xs) pn ∙ filter_where g p q same xs ∙ sym (filter_no q x (filter g xs) (sym (same x gy) ∙ pn)))
      (cases_Bool (p x)))
      ∙ sym (ap (filter q) (filter_yes g x xs gy)))
      (λ (gn : g x ≡ false). ap (filter p) (filter_no g x xs gn) ∙ filter_where g p q same xs ∙ sym (ap (filter q) (filter_no g x xs gn)))
      (cases_Bool (g x))

  -- a filter of a filter, where both tests together are a third
  pub filter_both : (p q r : X → Bool) → ((x : X) → r x ≡ (q x && p x)) → (xs : List X) → filter p (filter q xs) ≡ filter r xs
  filter_both p q r both [] = refl
  filter_both p q r both (x ∷ xs) =
      ⊎_elim
      (λ (qy : q x ≡ true). ap (filter p) (filter_yes q x xs qy)
      ∙ ⊎_elim
      (λ (py : p x ≡ true). filter_yes p x (filter q xs) py ∙ ap (λ ys. x ∷ ys) (filter_both p q r both xs) ∙ sym (filter_yes r x xs (both x ∙ and_from (q x) (p x) qy py)))
      (λ (pn : p x ≡ false). filter_no p x (filter q xs) pn ∙ filter_both p q r both xs ∙ sym (filter_no r x xs (both x ∙ and_right (q x) (p x) pn)))
      (cases_Bool (p x)))
      (λ (qn : q x ≡ false). ap (filter p) (filter_no q x xs qn) ∙ filter_both p q r both xs ∙ sym (filter_no r x xs (both x ∙ and_left (q x) (p x) qn)))
      (cases_Bool (q x))

  -- the first of what a filter keeps
  pub find_in : (p g r : X → Bool) → ((x : X) → r x ≡ (g x && p x)) → (xs : List X) → find p (filter g xs) ≡ find r xs
  find_in p g r both [] = refl
  find_in p g r both (x ∷ xs) =
      ⊎_elim
      (λ (gy : g x ≡ true). ap (find p) (filter_yes g x xs gy)
      ∙ ⊎_elim
      (λ (py : p x ≡ true). cond-true (p x) (Some x) (find p (filter g xs)) py ∙ sym (cond-true (r x) (Some x) (find r xs) (both x ∙ and_from (g x) (p x) gy py)))
      (λ (pn : p x ≡ false). cond-false (p x) (Some x) (find p (filter g xs)) pn ∙ find_in p g r both xs ∙ sym (cond-false (r x) (Some x) (find r xs) (both x ∙ and_right (g x) (p x) pn)))
      (cases_Bool (p x)))
      (λ (gn : g x ≡ false). ap (find p) (filter_no g x xs gn) ∙ find_in p g r both xs ∙ sym (cond-false (r x) (Some x) (find r xs) (both x ∙ and_left (g x) (p x) gn)))
      (cases_Bool (g x))

  pub some_find : (p : X → Bool) (xs : List X) → is_some (find p xs) ≡ list_any p xs
  some_find p [] = refl
  some_find p (x ∷ xs) =
      ⊎_elim
      (λ (py : p x ≡ true). rw py refl)
      (λ (pn : p x ≡ false). rw pn (some_find p xs))
      (cases_Bool (p x))

  -- ---- tests that no element passes after one that fails

  pub parted_tail : (p : X → Bool) (x : X) (xs : List X) → IsPartitionedBy p (x ∷ xs) → IsPartitionedBy p xs
  parted_tail p x xs parted i j d le within = parted (suc i) (suc j) d (omega arith) (omega arith)

  pub parted_none : (p : X → Bool) (x : X) (xs : List X) → IsPartitionedBy p (x ∷ xs) → p x ≡ false → All (λ y. p y ≡ false) xs
  parted_none p x xs parted fails k d within =
      false_from_ne_true (p (get_or xs k d)) (λ passes. false≢true (sym fails ∙ parted zero (suc k) d (omega arith) (omega arith) passes))

  -- what passes, and then what fails
  pub halves : (p : X → Bool) (xs : List X) → IsPartitionedBy p xs → filter p xs ++ filter (λ x. not (p x)) xs ≡ xs
  halves p [] parted = refl
  halves p (x ∷ xs) parted =
      ⊎_elim
      (λ (py : p x ≡ true). ap (λ ys. ys ++ filter (λ y. not (p y)) (x ∷ xs)) (filter_yes p x xs py)
      ∙ ap (λ ys. x ∷ (filter p xs ++ ys)) (filter_no (λ y. not (p y)) x xs (not_from_true (p x) py))
      ∙ ap (λ ys. x ∷ ys) (halves p xs (parted_tail p x xs parted)))
      (λ (pn : p x ≡ false). let none = parted_none p x xs parted pn in
      ap (λ ys. ys ++ filter (λ y. not (p y)) (x ∷ xs)) (filter_no p x xs pn ∙ filter_none p xs none)
      ∙ filter_yes (λ y. not (p y)) x xs (not_from_false (p x) pn)
      ∙ ap (λ ys. x ∷ ys) (filter_all (λ y. not (p y)) xs (λ k d within. not_from_false (p (get_or xs k d)) (none k d within))))
      (cases_Bool (p x))

  -- up to the point where a test begins to fail
  pub take_is : (p : X → Bool) (xs : List X) (i : ℕ) → i ≤ length xs → AllWithin (λ x. p x ≡ true) xs 0 i → AllWithin (λ x. p x ≡ false) xs i (length xs) → take i xs ≡ filter p xs
  take_is p [] zero le before after = refl
  take_is p [] (suc i) le before after = refl
  take_is p (x ∷ xs) zero le before after = sym (filter_none p (x ∷ xs) (λ k d within. after k d (omega arith) within))
  take_is p (x ∷ xs) (suc i) le before after =
      ap (λ ys. x ∷ ys) (take_is p xs i (omega arith) (λ k d low high. before (suc k) d (omega arith) (omega arith)) (λ k d low high. after (suc k) d (omega arith) (omega arith)))
      ∙ sym (filter_yes p x xs (before zero x (omega arith) (omega arith)))

  pub drop_is : (p : X → Bool) (xs : List X) (i : ℕ) → i ≤ length xs → AllWithin (λ x. p x ≡ true) xs 0 i → AllWithin (λ x. p x ≡ false) xs i (length xs) → drop i xs ≡ filter (λ x. not (p x)) xs
  drop_is p [] zero le before after = refl
  drop_is p [] (suc i) le before after = refl
  drop_is p (x ∷ xs) zero le before after =
      sym (filter_all (λ y. not (p y)) (x ∷ xs) (λ k d within. not_from_false (p (get_or (x ∷ xs) k d)) (after k d (omega arith) within)))
  drop_is p (x ∷ xs) (suc i) le before after =
      drop_is p xs i (omega arith) (λ k d low high. before (suc k) d (omega arith) (omega arith)) (λ k d low high. after (suc k) d (omega arith) (omega arith))
      ∙ sym (filter_no (λ y. not (p y)) x xs (not_from_true (p x) (before zero x (omega arith) (omega arith))))
