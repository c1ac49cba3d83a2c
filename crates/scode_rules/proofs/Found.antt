-- A field that is seen is found.
use Rattle.std.proofs.Common.{◌≡◌, ℕ, ◌+◌, ◌||◌, Bool, true, false, cond, List, [], ◌∷◌, slice_get, Some, refl, ap, sym, ◌∙◌}
use Rattle.std.specs.Prelude.{is_some, position}
use Rattle.std.specs.Bool.{OnTrue}
use Rattle.std.specs.List.{list_any, position_from}
use Rattle.std.proofs.lemmas.Iterator.Adapters.{position_from-zero}
use Rattle.std.proofs.lemmas.List.Folds.{list_any_at}
use Rattle.std.proofs.lemmas.Option.{get_or_from_slice_get, slice_get_within}

any_placed : {X : Type 0} (p : X → Bool) (first : ℕ) (xs : List X) → is_some (position_from p first xs) ≡ list_any p xs
any_placed p first [] = refl
any_placed p first (x ∷ xs) = by_test (p x) (any_placed p (first + 1) xs)
  where
    by_test : (b : Bool) → is_some (position_from p (first + 1) xs) ≡ list_any p xs →
        is_some (cond b (Some first) (position_from p (first + 1) xs)) ≡ (b || list_any p xs)
    by_test true again = refl
    by_test false again = again

found_at : {X : Type 0} (p : X → Bool) (xs : List X) (i : ℕ) (x : X) → slice_get xs i ≡ Some x → p x ≡ true
    → is_some (position p xs) ≡ true
found_at p xs i x is passes =
    ap is_some (position_from-zero p xs) ∙ any_placed p 0 xs
    ∙ list_any_at p xs i x (slice_get_within xs i x is) (ap p (get_or_from_slice_get xs i x x is) ∙ passes)

pub on_found : {X : Type 0} (p : X → Bool) (xs : List X) (i : ℕ) (x : X) (b : Bool) → slice_get xs i ≡ Some x
    → b ≡ p x → OnTrue b (is_some (position p xs) ≡ true)
on_found p xs i x true is passes = found_at p xs i x is (sym passes)
on_found p xs i x false is fails = tt
