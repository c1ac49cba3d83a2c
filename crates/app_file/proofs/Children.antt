-- A list without repeats is known from its first item and from what stands behind each.
use Rattle.std.proofs.Common.{◌≡◌, ℕ, zero, suc, true, false, List, [], ◌∷◌, refl, sym, ◌∙◌, ap, arith}
use Rattle.std.specs.Prelude.{Option, Some, None, ◌==◌, if◌then◌else◌, nat_eq, slice_get}
use Rattle.std.specs.Option.{option_and_then}
use Rattle.std.specs.List.{AllByRecursion, IsDistinct}
use Rattle.std.proofs.lemmas.Bool.Decides.{nat_tests}
use Rattle.app_file.specs.Rows.{behind}

-- lists with the same items are one
pub same_items : {A : Type 0} (xs ys : List A) → ((n : ℕ) → slice_get xs n ≡ slice_get ys n) → xs ≡ ys
same_items [] [] same = refl
same_items {A} [] (y ∷ ys) same = absurd (let no : ◌≡◌ {A = Option A} None (Some y) = same 0 in cc)
same_items {A} (x ∷ xs) [] same = absurd (let no : ◌≡◌ {A = Option A} (Some x) None = same 0 in cc)
same_items {A} (x ∷ xs) (y ∷ ys) same =
    let first : x ≡ y = let both : ◌≡◌ {A = Option A} (Some x) (Some y) = same 0 in cc in
    let rest = same_items xs ys (λ n. same (suc n)) in
    λ i. first i ∷ rest i

apart : (k x : ℕ) (ks : List ℕ) (n : ℕ) → AllByRecursion (λ y. nat_eq k y ≡ false) ks → slice_get ks n ≡ Some x → (k == x) ≡ false
apart k x [] n all at = absurd (let no : ◌≡◌ {A = Option ℕ} None (Some x) = at in cc)
apart k x (y ∷ ks) zero all at =
    let same : y ≡ x = cc in
    let first = all.0 in
    rw (sym same) first
apart k x (y ∷ ks) (suc n) all at = apart k x ks n all.1 at

-- the next item is the one behind this one
pub next_item : (xs : List ℕ) (n : ℕ) → IsDistinct nat_eq xs → slice_get xs (suc n) ≡ option_and_then (λ x. behind x xs) (slice_get xs n)
unfolding IsDistinct
next_item [] n distinct = refl
next_item (k ∷ ks) zero distinct =
    let same : (k == k) ≡ true = grind (arith, nat_tests) in
    rw same refl
next_item (k ∷ ks) (suc n) distinct = next_item ks n distinct.1 ∙ by_item (slice_get ks n) refl
  where
    by_item : (r : Option ℕ) → slice_get ks n ≡ r → option_and_then (λ x. behind x ks) r ≡ option_and_then (λ x. behind x (k ∷ ks)) r
    by_item None at = refl
    by_item (Some x) at = ap (λ b. if b then slice_get ks 0 else behind x ks) (sym (apart k x ks n distinct.0 at))

pub same_list : (xs ys : List ℕ) → IsDistinct nat_eq xs → IsDistinct nat_eq ys → slice_get xs 0 ≡ slice_get ys 0
    → ((n x : ℕ) → slice_get xs n ≡ Some x → behind x xs ≡ behind x ys) → xs ≡ ys
same_list xs ys distinct_x distinct_y first next = same_items xs ys each
  where
    by_item : (r : Option ℕ) → (n : ℕ) → slice_get xs n ≡ r → option_and_then (λ x. behind x xs) r ≡ option_and_then (λ x. behind x ys) r
    by_item None n at = refl
    by_item (Some x) n at = next n x at

    each : (n : ℕ) → slice_get xs n ≡ slice_get ys n
    each zero = first
    each (suc n) =
        next_item xs n distinct_x ∙ by_item (slice_get xs n) n refl ∙ ap (option_and_then (λ x. behind x ys)) (each n)
        ∙ sym (next_item ys n distinct_y)
