-- What stands behind an id among the children of its parent.
use Rattle.std.proofs.Common.{◌≡◌, ℕ, zero, suc, ◌+◌, ◌<◌, ◌≤◌, Bool, true, false, List, [], ◌∷◌, length, drop, get_or, refl, sym, ◌∙◌, ap, arith, add-one, inl, inr}
use Rattle.std.specs.Prelude.{Option, Some, None, slice_get, ◌==◌, if◌then◌else◌, ◌⊎◌}
use Rattle.std.specs.Option.{option_map_or}
use Rattle.std.proofs.Math.Seq.{drop-cons}
use Rattle.std.proofs.Math.ListN.{drop_of_length-le}
use Rattle.std.proofs.lemmas.Option.{get_or_from_slice_get, slice_get_cases, slice_get_within}
use Rattle.app_file.specs.Rows.{behind}

abbrev pub is_at : ℕ → List ℕ → ℕ → Bool
is_at id xs n = option_map_or (λ (child : ℕ). child == id) (slice_get xs n) false

-- the list from a place on, by what stands there
front-at : (xs : List ℕ) (n x : ℕ) → slice_get xs n ≡ Some x → drop n xs ≡ x ∷ drop (n + 1) xs
front-at xs n x at =
    drop-cons xs n x (slice_get_within xs n x at) ∙ ap (λ (k : ℕ). get_or xs n x ∷ drop k xs) (sym (add-one n))
    ∙ ap (λ (y : ℕ). y ∷ drop (n + 1) xs) (get_or_from_slice_get xs n x x at)

first-behind : (xs : List ℕ) (n : ℕ) → slice_get (drop n xs) 0 ≡ slice_get xs n
first-behind xs zero = refl
first-behind [] (suc n) = refl
first-behind (x ∷ xs) (suc n) = first-behind xs n

pub behind-here : (id : ℕ) (xs : List ℕ) (n : ℕ) → is_at id xs n ≡ true → behind id (drop n xs) ≡ slice_get xs (n + 1)
behind-here id xs n is = by (slice_get xs n) refl is
  where
    by : (r : Option ℕ) → slice_get xs n ≡ r → option_map_or (λ (child : ℕ). child == id) r false ≡ true → behind id (drop n xs) ≡ slice_get xs (n + 1)
    by None at is = absurd (let no : false ≡ true = is in cc)
    by (Some x) at is =
        ap (behind id) (front-at xs n x at)
        ∙ ap (λ (b : Bool). if b then slice_get (drop (n + 1) xs) 0 else behind id (drop (n + 1) xs)) is
        ∙ first-behind xs (n + 1)

pub behind-later : (id : ℕ) (xs : List ℕ) (n : ℕ) → is_at id xs n ≡ false → behind id (drop (n + 1) xs) ≡ behind id (drop n xs)
behind-later id xs n is = by (slice_get_cases xs n).1
  where
    by : ((x : ℕ) × (n < length xs) × (slice_get xs n ≡ Some x) × (get_or xs n x ≡ x)) ⊎ ((length xs ≤ n) × (slice_get xs n ≡ None)) → behind id (drop (n + 1) xs) ≡ behind id (drop n xs)
    by (inl there) =
        let x = there.0 in
        let other : (x == id) ≡ false = sym (ap (λ (r : Option ℕ). option_map_or (λ (child : ℕ). child == id) r false) there.2) ∙ is in
        sym (ap (behind id) (front-at xs n x there.2) ∙ ap (λ (b : Bool). if b then slice_get (drop (n + 1) xs) 0 else behind id (drop (n + 1) xs)) other)
    by (inr past) =
        let le = past.0 in
        ap (behind id) (drop_of_length-le xs (omega (arith, le))) ∙ sym (ap (behind id) (drop_of_length-le xs le))

pub behind-end : (id : ℕ) (xs : List ℕ) (n : ℕ) → length xs ≤ n → behind id (drop n xs) ≡ None
behind-end id xs n past = ap (behind id) (drop_of_length-le xs past)
