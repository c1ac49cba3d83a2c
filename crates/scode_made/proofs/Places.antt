-- What stands at a place of a list.
use Rattle.std.proofs.Common.{◌≡◌, ℕ, zero, suc, ◌+◌, List, [], ◌∷◌, ◌++◌, map, Some, refl, ap, subst, ◌∙◌, arith}
use Rattle.std.specs.Prelude.{All, slice_get}
use Rattle.std.specs.List.{enumerate_from}
use Rattle.std.specs.Option.{option_map}
use Rattle.std.proofs.lemmas.Option.{get_or_from_slice_get, slice_get_within}

-- what holds of all holds of what stands at a place
pub all_at : {X : Type 0} (P : X → Type 0) (xs : List X) (i : ℕ) (x : X) → slice_get xs i ≡ Some x → All P xs → P x
all_at P xs i x at all = subst P (get_or_from_slice_get xs i x x at) (all i x (slice_get_within xs i x at))

-- what stands in a list stands there with more behind it
pub in_front : {X : Type 0} (xs ys : List X) (i : ℕ) (x : X) → slice_get xs i ≡ Some x → slice_get (xs ++ ys) i ≡ Some x
in_front [] ys i x at = let never : ⊥ = cc in absurd never
in_front (y ∷ xs) ys zero x at = at
in_front (y ∷ xs) ys (suc i) x at = in_front xs ys i x at

numbered_from : {X Y : Type 0} (f : ℕ → X → Y) (n i : ℕ) (xs : List X) →
    slice_get (map (λ (at : ℕ × X). f at.0 at.1) (enumerate_from n xs)) i ≡ option_map (f (n + i)) (slice_get xs i)
numbered_from f n i [] = refl
numbered_from f n zero (x ∷ xs) = ap (λ (k : ℕ). Some (f k x)) (let e : n ≡ n + 0 = omega arith in e)
numbered_from f n (suc i) (x ∷ xs) =
    numbered_from f (n + 1) i xs
    ∙ ap (λ (k : ℕ). option_map (f k) (slice_get xs i)) (let e : (n + 1) + i ≡ n + suc i = omega arith in e)

-- what is made of each by its number
pub numbered : {X Y : Type 0} (f : ℕ → X → Y) (i : ℕ) (xs : List X) →
    slice_get (map (λ (at : ℕ × X). f at.0 at.1) (enumerate_from 0 xs)) i ≡ option_map (f i) (slice_get xs i)
numbered f i xs =
    numbered_from f 0 i xs
    ∙ ap (λ (k : ℕ). option_map (f k) (slice_get xs i)) (let e : 0 + i ≡ i = omega arith in e)

back_from : {X Y : Type 0} (f : ℕ → X → Y) (back : Y → X) (n : ℕ) (xs : List X) → ((i : ℕ) (x : X) → slice_get xs i ≡ Some x → back (f (n + i) x) ≡ x) →
    map back (map (λ (at : ℕ × X). f at.0 at.1) (enumerate_from n xs)) ≡ xs
back_from f back n [] h = refl
back_from {X} {Y} f back n (x ∷ xs) h =
    let rest : List X = map back (map (λ (at : ℕ × X). f at.0 at.1) (enumerate_from (n + 1) xs)) in
    let here : back (f n x) ≡ x = ap (λ (k : ℕ). back (f k x)) (let e : n ≡ n + 0 = omega arith in e) ∙ h 0 x refl in
    ap (λ (y : X). y ∷ rest) here
    ∙ ap (λ (ys : List X). x ∷ ys)
    (back_from f back (n + 1) xs (λ i y at. ap (λ (k : ℕ). back (f k y)) (let e : (n + 1) + i ≡ n + suc i = omega arith in e) ∙ h (suc i) y at))

-- what is made of each by its number and read back is each
pub read_back : {X Y : Type 0} (f : ℕ → X → Y) (back : Y → X) (xs : List X) → ((i : ℕ) (x : X) → slice_get xs i ≡ Some x → back (f i x) ≡ x) →
    map back (map (λ (at : ℕ × X). f at.0 at.1) (enumerate_from 0 xs)) ≡ xs
read_back f back xs h =
    back_from f back 0 xs (λ i x at. ap (λ (k : ℕ). back (f k x)) (let e : 0 + i ≡ i = omega arith in e) ∙ h i x at)
