-- The first place at which a test passes, and what it tells of a list.
use Rattle.std.proofs.Common.{◌≡◌, ◌<◌, ◌≤◌, ℕ, zero, suc, ◌+◌, Bool, true, false, ◌||◌, cond, is_some, nat_lt, List, [], ◌∷◌, length, take, drop, slice_get, Option, Some, None, unwrap_or, refl, sym, ap, ◌∙◌, arith, lt-ltb, le-ltb, ltb-false}
use Rattle.std.specs.List.{find, list_any, position, position_from, position_or_len}
use Rattle.std.specs.Option.{option_and_then, option_map_or}
use Rattle.std.proofs.lemmas.Iterator.Adapters.{position_from-zero}
use Rattle.std.proofs.lemmas.List.{drop_more}
use Rattle.std.proofs.lemmas.List.Folds.{find_at}
use Rattle.std.proofs.lemmas.Option.{get_or_from_slice_get, slice_get_past, slice_get_within}

module _ {X : Type 0} (p : X → Bool) where
  -- what is found from the start on
  pub from_start : (xs : List X) → position_from p 0 xs ≡ position p xs
  from_start xs = sym (position_from-zero p xs)

  -- and where nothing stands before the start
  pub from_first : (xs : List X) (i : ℕ) → i ≤ 0 → position_from p i (drop i xs) ≡ position p xs
  from_first xs i le = let none : i ≡ 0 = omega (arith, le) in ap (λ n. position_from p n (drop n xs)) none ∙ from_start xs

  -- one place further to the front
  pub from_before : (xs : List X) (i : ℕ) (x : X) → slice_get xs i ≡ Some x → position_from p i (drop i xs) ≡ cond (p x) (Some i) (position_from p (i + 1) (drop (i + 1) xs))
  from_before xs i x there =
      ap (position_from p i) (drop_more xs i x (slice_get_within xs i x there) ∙ ap (λ y. y ∷ drop (i + 1) xs) (get_or_from_slice_get xs i x x there))

  some_from : (i : ℕ) (xs : List X) → is_some (position_from p i xs) ≡ list_any p xs
  some_from i [] = refl
  some_from i (x ∷ xs) = by_test (p x) (position_from p (i + 1) xs) (some_from (i + 1) xs)
    where
      by_test : (b : Bool) (o : Option ℕ) → is_some o ≡ list_any p xs → is_some (cond b (Some i) o) ≡ (b || list_any p xs)
      by_test true o e = refl
      by_test false o e = e

  -- one passes where a first one does
  pub any_found : (xs : List X) → is_some (position p xs) ≡ list_any p xs
  any_found xs = ap is_some (sym (from_start xs)) ∙ some_from 0 xs

  none_before : (i end : ℕ) (xs : List X) → end ≤ i → option_map_or (λ at. nat_lt at end) (position_from p i xs) false ≡ false
  none_before i end [] le = refl
  none_before i end (x ∷ xs) le = by_test (p x) (position_from p (i + 1) xs) (none_before (i + 1) end xs (omega (arith, le)))
    where
      by_test : (b : Bool) (o : Option ℕ) → option_map_or (λ at. nat_lt at end) o false ≡ false → option_map_or (λ at. nat_lt at end) (cond b (Some i) o) false ≡ false
      by_test true o e = le-ltb i end le
      by_test false o e = e

  before_from : (i n end : ℕ) (xs : List X) → end ≡ i + n → option_map_or (λ at. nat_lt at end) (position_from p i xs) false ≡ list_any p (take n xs)
  before_from i zero end xs e = none_before i end xs (omega (arith, e))
  before_from i (suc n) end [] e = refl
  before_from i (suc n) end (x ∷ xs) e = by_test (p x) (position_from p (i + 1) xs) (before_from (i + 1) n end xs (omega (arith, e)))
    where
      by_test : (b : Bool) (o : Option ℕ) → option_map_or (λ at. nat_lt at end) o false ≡ list_any p (take n xs) → option_map_or (λ at. nat_lt at end) (cond b (Some i) o) false ≡ (b || list_any p (take n xs))
      by_test true o h = lt-ltb i end (omega (arith, e))
      by_test false o h = h

  -- one of the first ones passes where the first one that does is before their end
  pub any_before : (xs : List X) (n : ℕ) → option_map_or (λ at. nat_lt at n) (position p xs) false ≡ list_any p (take n xs)
  any_before xs n = ap (λ o. option_map_or (λ at. nat_lt at n) o false) (sym (from_start xs)) ∙ before_from 0 n n xs (omega arith)

  -- what stands at the first place is the first one
  pub find_there : (xs : List X) → option_and_then (slice_get xs) (position p xs) ≡ find p xs
  find_there xs = by_test (nat_lt (position_or_len p xs) (length xs)) refl
    where
      by_test : (b : Bool) → nat_lt (position_or_len p xs) (length xs) ≡ b → option_and_then (slice_get xs) (cond b (Some (position_or_len p xs)) None) ≡ find p xs
      by_test true is = sym (find_at p xs)
      by_test false is = sym (find_at p xs ∙ slice_get_past xs (position_or_len p xs) (ltb-false _ _ is))
