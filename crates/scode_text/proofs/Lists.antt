-- Lists of what is made of each by its number, and how many there are of what has a size.
use Rattle.std.proofs.Common.{◌≡◌, ℕ, suc, ◌+◌, ◌<◌, ◌≤◌, List, [], ◌∷◌, length, map, Some, refl, ap, subst, arith}
use Rattle.std.specs.Prelude.{All, slice_get}
use Rattle.std.specs.List.{enumerate_from, sum_by}
use Rattle.std.proofs.lemmas.List.Elements.{All-cons, All-head, All-nil, All-tail}
use Rattle.std.proofs.lemmas.List.Sums.{sum_by-cons}

each_from : {X Y : Type 0} (P : Y → Type 0) (f : ℕ → X → Y) (n : ℕ) (xs : List X) → ((i : ℕ) (x : X) → slice_get xs i ≡ Some x → P (f (n + i) x)) →
    All P (map (λ (at : ℕ × X). f at.0 at.1) (enumerate_from n xs))
each_from P f n [] h = All-nil P
each_from {X} P f n (x ∷ xs) h =
    All-cons P (f n x) (map (λ (at : ℕ × X). f at.0 at.1) (enumerate_from (n + 1) xs))
    (subst (λ (k : ℕ). P (f k x)) (let e : n + 0 ≡ n = omega arith in e) (h 0 x refl))
    (each_from P f (n + 1) xs (λ i y at. subst (λ (k : ℕ). P (f k y)) (let e : n + suc i ≡ (n + 1) + i = omega arith in e) (h (suc i) y at)))

-- what holds of each that is made holds of all
pub each_numbered : {X Y : Type 0} (P : Y → Type 0) (f : ℕ → X → Y) (xs : List X) → ((i : ℕ) (x : X) → slice_get xs i ≡ Some x → P (f i x)) →
    All P (map (λ (at : ℕ × X). f at.0 at.1) (enumerate_from 0 xs))
each_numbered P f xs h = each_from P f 0 xs (λ i x at. subst (λ (k : ℕ). P (f k x)) (let e : i ≡ 0 + i = omega arith in e) (h i x at))

many_from : {X Y : Type 0} (f : ℕ → X → Y) (n : ℕ) (xs : List X) → length (map (λ (at : ℕ × X). f at.0 at.1) (enumerate_from n xs)) ≡ length xs
many_from f n [] = refl
many_from f n (x ∷ xs) = ap suc (many_from f (n + 1) xs)

-- there are as many
pub many_numbered : {X Y : Type 0} (f : ℕ → X → Y) (xs : List X) → length (map (λ (at : ℕ × X). f at.0 at.1) (enumerate_from 0 xs)) ≡ length xs
many_numbered f xs = many_from f 0 xs

-- of what is not empty there are no more than their sizes together
pub few_of : {X : Type 0} (size : X → ℕ) (xs : List X) → All (λ x. 0 < size x) xs → length xs ≤ sum_by size xs
few_of size [] h = omega arith
few_of size (x ∷ xs) h =
    let one : 0 < size x = All-head (λ y. 0 < size y) x xs h in
    let rest = few_of size xs (All-tail (λ y. 0 < size y) x xs h) in
    omega (arith, sum_by-cons size x xs, one, rest)
