-- Classes found in a row, one by one.
use Rattle.std.proofs.Common.{◌≡◌, ◌<◌, ◌+◌, ℕ, List, [], ◌∷◌, ◌++◌, take, length, get_or, slice_get, Option, Some, None, All, refl, subst, sym, ap, ◌∙◌}
use Rattle.std.specs.List.{cons_option, filter_map}
use Rattle.std.specs.Option.{option_to_list}
use Rattle.std.proofs.Math.Numerals.{add-one}
use Rattle.std.proofs.Math.Seq.{take-suc}
use Rattle.std.proofs.lemmas.List.Elements.{All-get_or, filter_map-append}
use Rattle.std.proofs.lemmas.Option.{get_or_from_slice_get, slice_get_within}

one_listed : {X : Type 0} (o : Option X) → cons_option o [] ≡ option_to_list o
one_listed None = refl
one_listed (Some x) = refl

pub found_step : {X Y : Type 0} (f : X → Option Y) (i : ℕ) (xs : List X) (x : X) (far new : List Y) →
    i < length xs → get_or xs i x ≡ x → new ≡ far ++ option_to_list (f x) →
    far ≡ filter_map f (take i xs) → new ≡ filter_map f (take (i + 1) xs)
found_step f i xs x far new h at e p =
    let front : take (i + 1) xs ≡ take i xs ++ x ∷ [] =
    ap (λ m. take m xs) (add-one i) ∙ take-suc xs i x h ∙ ap (λ y. take i xs ++ y ∷ []) at in
    e
    ∙ ap (λ ys. ys ++ option_to_list (f x)) p
    ∙ ap (λ ys. filter_map f (take i xs) ++ ys) (sym (one_listed (f x)))
    ∙ sym (ap (filter_map f) front ∙ filter_map-append f (take i xs) (x ∷ []))

-- what holds of all holds of the one at a place
pub all_at : {X : Type 0} (P : X → Type 0) (xs : List X) (i : ℕ) (x : X) → slice_get xs i ≡ Some x → All P xs → P x
all_at P xs i x e a =
    subst P (get_or_from_slice_get xs i x x e) (All-get_or P xs i x (slice_get_within xs i x e) a)
