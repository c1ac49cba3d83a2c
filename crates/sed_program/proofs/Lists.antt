-- Loops over rows.
use Rattle.std.proofs.Common.{◌≡◌, ◌<◌, ℕ, ◌+◌, List, [], ◌∷◌, ◌++◌, map, take, length, get_or, sym, ap, ◌∙◌}
use Rattle.std.proofs.Math.Numerals.{add-one}
use Rattle.std.proofs.Math.Seq.{take-suc}
use Rattle.std.proofs.lemmas.List.{map-append}

-- a row with one more item
pub front_more : {X : Type 0} (n : ℕ) (xs : List X) (x : X) → n < length xs → x ≡ get_or xs n x →
    take (n + 1) xs ≡ take n xs ++ x ∷ []
front_more n xs x h e =
    ap (λ m. take m xs) (add-one n) ∙ take-suc xs n x h ∙ ap (λ y. take n xs ++ y ∷ []) (sym e)

-- what is made of a row, with one more item
pub map_step : {X Y : Type 0} (f : X → Y) (n : ℕ) (xs : List X) (x : X) (far new : List Y) (y : Y) →
    n < length xs → x ≡ get_or xs n x → new ≡ far ++ y ∷ [] → y ≡ f x →
    far ≡ map f (take n xs) → new ≡ map f (take (n + 1) xs)
map_step f n xs x far new y h e p q i =
    p
    ∙ ap (λ ys. ys ++ y ∷ []) i
    ∙ ap (λ z. map f (take n xs) ++ z ∷ []) q
    ∙ sym (map-append f (take n xs) (x ∷ []))
    ∙ sym (ap (map f) (front_more n xs x h e))
