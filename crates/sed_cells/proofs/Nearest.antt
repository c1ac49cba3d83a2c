-- Names of methods, looked for at a class and above it.
use Rattle.std.proofs.Common.{◌≡◌, ℕ, zero, suc, List, [], ◌∷◌, ◌++◌, length, map, Option, Some, None, refl}
use Rattle.std.specs.Option.{option_and_then, option_map}
use Rattle.std.specs.Prelude.{slice_get, IfSome}
use Rattle.sed_typed.specs.Classes.{first_found}

-- a class that does not itself declare what is looked for
pub found-later : (look : ℕ → Option ℕ) (at : ℕ) (rest : List ℕ) → look at ≡ None → first_found look (at ∷ rest) ≡ first_found look rest
found-later look at rest e = rw e refl

-- what is true of each item by its number goes on to be, with one more
pub one-more-is : {X : Type 0} (P : ℕ → X → Type 0) (xs : List X) (x : X) → ((k : ℕ) → IfSome (slice_get xs k) (P k)) → P (length xs) x → (k : ℕ) → IfSome (slice_get (xs ++ x ∷ []) k) (P k)
one-more-is P [] x h p zero = p
one-more-is P [] x h p (suc k) = tt
one-more-is P (y ∷ ys) x h p zero = h zero
one-more-is P (y ∷ ys) x h p (suc k) = one-more-is (λ n. P (suc n)) ys x (λ n. h (suc n)) p k

-- what is looked up in a row of answers
pub in-a-row : {X : Type 0} (f : X → Option ℕ) (xs : List X) (n : ℕ) (r : Option (Option ℕ)) → r ≡ slice_get (map f xs) n → option_and_then (λ (x : Option ℕ). x) r ≡ option_and_then f (slice_get xs n)
in-a-row f [] n r e = rw e refl
in-a-row f (x ∷ xs) zero r e = rw e refl
in-a-row f (x ∷ xs) (suc n) r e = in-a-row f xs n r e
