-- Going over a row, keeping what is found and adding up what is counted.
use Rattle.std.proofs.Common.{◌≡◌, ◌<◌, ◌+◌, ℕ, zero, suc, List, [], ◌∷◌, ◌++◌, take, length, get_or, slice_get, Option, Some, None, refl, sym, ap, ◌∙◌, append_assoc, arith}
use Rattle.std.specs.List.{cons_option, filter_map, sum_by}
use Rattle.std.specs.Option.{option_map_or, option_to_list}
use Rattle.std.proofs.Math.Numerals.{add-one}
use Rattle.std.proofs.Math.Seq.{take-suc}
use Rattle.std.proofs.lemmas.List.Elements.{filter_map-append}
use Rattle.std.proofs.lemmas.List.Sums.{sum_by-cons}

one_listed : {X : Type 0} (o : Option X) → cons_option o [] ≡ option_to_list o
one_listed None = refl
one_listed (Some x) = refl

-- what is found of one item more
pub found_step : {X Y : Type 0} (f : X → Option Y) (i : ℕ) (xs : List X) (x : X) (initial far new : List Y)
    (one : Option Y) →
    i < length xs → get_or xs i x ≡ x → one ≡ f x → new ≡ far ++ option_to_list one →
    far ≡ initial ++ filter_map f (take i xs) → new ≡ initial ++ filter_map f (take (i + 1) xs)
found_step f i xs x initial far new one h at o e p =
    let front : take (i + 1) xs ≡ take i xs ++ x ∷ [] =
    ap (λ m. take m xs) (add-one i) ∙ take-suc xs i x h ∙ ap (λ y. take i xs ++ y ∷ []) at in
    e
    ∙ ap (λ ys. ys ++ option_to_list one) p
    ∙ ap (λ t. (initial ++ filter_map f (take i xs)) ++ option_to_list t) o
    ∙ ap (λ ys. (initial ++ filter_map f (take i xs)) ++ ys) (sym (one_listed (f x)))
    ∙ append_assoc initial (filter_map f (take i xs)) (filter_map f (x ∷ []))
    ∙ ap (λ ys. initial ++ ys) (sym (ap (filter_map f) front ∙ filter_map-append f (take i xs) (x ∷ [])))

-- the sum over one item more of a row, be it behind its end
pub sum_taken : {X : Type 0} (count : X → ℕ) (i : ℕ) (xs : List X) →
    sum_by count (take (suc i) xs) ≡ sum_by count (take i xs) + option_map_or count (slice_get xs i) 0
sum_taken count zero [] = refl
sum_taken count (suc i) [] = refl
sum_taken count zero (x ∷ xs) = refl
sum_taken count (suc i) (x ∷ xs) =
    sum_by-cons count x (take (suc i) xs)
    ∙ ap (λ n. count x + n) (sum_taken count i xs)
    ∙ omega (arith, sum_by-cons count x (take i xs))
