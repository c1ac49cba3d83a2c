-- What the bases of a class give, the farthest first.
use Rattle.std.proofs.Common.{◌≡◌, ℕ, List, [], ◌∷◌, ◌++◌, map, reverse, refl, sym, ap, ◌∙◌}
use Rattle.std.specs.List.{flat_map, AllByRecursion}
use Rattle.std.proofs.lemmas.List.{append-nil, reverse-append}
use Rattle.std.proofs.lemmas.Grind.{flat_map-append}

pub up_cons : {X : Type 0} (f : ℕ → List X) (x : ℕ) (xs : List ℕ) →
    flat_map f (reverse (x ∷ xs)) ≡ flat_map f (reverse xs) ++ f x
up_cons f x xs =
    ap (flat_map f) (reverse-append (x ∷ []) xs)
    ∙ flat_map-append f (reverse xs) (x ∷ [])
    ∙ ap (λ ys. flat_map f (reverse xs) ++ ys) (append-nil (f x))

-- by other names, where both give the same of each
pub up_map : {X : Type 0} (f g : ℕ → List X) (n : ℕ → ℕ) (xs : List ℕ) → AllByRecursion (λ x. f (n x) ≡ g x) xs →
    flat_map f (reverse (map n xs)) ≡ flat_map g (reverse xs)
up_map f g n [] h = refl
up_map f g n (x ∷ xs) h =
    up_cons f (n x) (map n xs)
    ∙ ap (λ ys. ys ++ f (n x)) (up_map f g n xs h.1)
    ∙ ap (λ ys. flat_map g (reverse xs) ++ ys) h.0
    ∙ sym (up_cons g x xs)
