-- What stands in a list.
use Rattle.std.proofs.Common.{◌≡◌, ◌⊎◌, inl, inr, List, [], ◌∷◌, ◌++◌, refl}
use Rattle.scode_entries.proofs.Admits.{Each}

abbrev pub Has : {X : Type 0} → List X → X → Type 0
Has [] x = ⊥
Has (y ∷ ys) x = (y ≡ x) ⊎ Has ys x

pub has_front : {X : Type 0} (xs ys : List X) (x : X) → Has xs x → Has (xs ++ ys) x
has_front [] ys x h = absurd h
has_front (y ∷ xs) ys x (inl e) = inl e
has_front (y ∷ xs) ys x (inr h) = inr (has_front xs ys x h)

pub has_back : {X : Type 0} (xs ys : List X) (x : X) → Has ys x → Has (xs ++ ys) x
has_back [] ys x h = h
has_back (y ∷ xs) ys x h = inr (has_back xs ys x h)

one_more : {X : Type 0} (y x : X) (xs ys : List X) → Has xs x ⊎ Has ys x → Has (y ∷ xs) x ⊎ Has ys x
one_more y x xs ys (inl h) = inl (inr h)
one_more y x xs ys (inr h) = inr h

pub has_split : {X : Type 0} (xs ys : List X) (x : X) → Has (xs ++ ys) x → Has xs x ⊎ Has ys x
has_split [] ys x h = inr h
has_split (y ∷ xs) ys x (inl e) = inl (inl e)
has_split (y ∷ xs) ys x (inr h) = one_more y x xs ys (has_split xs ys x h)

-- what holds of each that stands there holds of all
pub each_of : {X : Type 0} (P : X → Type 0) (xs : List X) → ((x : X) → Has xs x → P x) → Each P xs
each_of P [] f = tt
each_of P (x ∷ xs) f = (f x (inl refl), each_of P xs (λ y h. f y (inr h)))

pub each_front : {X : Type 0} (P : X → Type 0) (xs ys : List X) → Each P (xs ++ ys) → Each P xs
each_front P [] ys h = tt
each_front P (x ∷ xs) ys h = (h.0, each_front P xs ys h.1)

pub each_back : {X : Type 0} (P : X → Type 0) (xs ys : List X) → Each P (xs ++ ys) → Each P ys
each_back P [] ys h = h
each_back P (x ∷ xs) ys h = each_back P xs ys h.1
