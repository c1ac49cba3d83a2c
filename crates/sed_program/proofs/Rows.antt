-- Rows with an item for each class, and what they have at a place.
use Rattle.std.proofs.Common.{◌≡◌, ◌≤◌, ◌<◌, ℕ, ◌+◌, Bool, true, false, nat_le, map, length, List, [], ◌∷◌, ◌++◌, Option, Some, None, slice_get, refl, sym, ap, ◌∙◌, arith}
use Rattle.std.specs.List.{range_with_len}
use Rattle.std.specs.Option.{IfNone, IfSome, option_map}
use Rattle.std.proofs.lemmas.Bool.Decides.{nat_tests}
use Rattle.std.proofs.lemmas.List.FromFn.{map-range_with_len_more, get_or-range_with_len, length-map-range_with_len, length-range_with_len}
use Rattle.std.proofs.lemmas.Option.{slice_get-get_or, slice_get-map, slice_get_within, same_Some as some_eq}
use Rattle.sed_classes.specs.declared.kit_units.KitUnits.{KitUnits}
use Rattle.sed_classes.specs.Declarations.{all_classes}
use Rattle.sed_outline.specs.Rounds.{row_of}

-- a row of the first places, with one place more
pub row_step : {X : Type 0} (f : ℕ → X) (n : ℕ) (xs new : List X) (x : X) →
    new ≡ xs ++ x ∷ [] → xs ≡ map f (range_with_len 0 n) → x ≡ f n → new ≡ map f (range_with_len 0 (n + 1))
row_step f n xs new x e i a =
    let at : 0 + n ≡ n = omega arith in
    e
    ∙ ap (λ ys. ys ++ x ∷ []) i
    ∙ ap (λ y. map f (range_with_len 0 n) ++ y ∷ []) a
    ∙ sym (map-range_with_len_more f 0 n n at)

-- ---- what a row of all classes has at a place

range_get : (a n i : ℕ) → i < n → slice_get (range_with_len a n) i ≡ Some (a + i)
range_get a n i h =
    let len : i < length (range_with_len a n) = omega (arith, h, length-range_with_len a n) in
    slice_get-get_or (range_with_len a n) i 0 len ∙ ap Some (get_or-range_with_len a n i 0 h)

row_len : {X : Type 0} (units : List KitUnits) (f : ℕ → X) → length (row_of units f) ≡ length (all_classes units)
row_len units f = length-map-range_with_len f 0 (length (all_classes units))

row_there : {X : Type 0} (units : List KitUnits) (f : ℕ → X) (class : ℕ) → class < length (all_classes units) →
    slice_get (row_of units f) class ≡ Some (f class)
row_there units f class h =
    slice_get-map f (range_with_len 0 (length (all_classes units))) class
    ∙ ap (option_map f) (range_get 0 (length (all_classes units)) class h)
    ∙ ap (λ k. Some (f k)) (let e : 0 + class ≡ class = omega arith in e)

pub row_get : {X : Type 0} (units : List KitUnits) (f : ℕ → X) (class : ℕ) (x : X) →
    slice_get (row_of units f) class ≡ Some x → x ≡ f class
row_get units f class x e =
    let within : class < length (all_classes units) =
    omega (arith, slice_get_within (row_of units f) class x e, row_len units f) in
    some_eq x (f class) (sym e ∙ row_there units f class within)

pub row_past : {X : Type 0} (units : List KitUnits) (f : ℕ → X) (class : ℕ) →
    slice_get (row_of units f) class ≡ None → length (all_classes units) ≤ class
row_past {X} units f class e = by_order (nat_le (length (all_classes units)) class) refl
  where
    by_order : (b : Bool) → nat_le (length (all_classes units)) class ≡ b → length (all_classes units) ≤ class
    by_order true t = grind (arith, nat_tests)
    by_order false t =
        let within : class < length (all_classes units) = grind (arith, nat_tests) in
        absurd (no_some (f class) (sym (row_there units f class within) ∙ e))
      where
        no_some : (x : X) → Some x ≡ None → ⊥
        no_some x p = cc

-- ---- what is seen of a row through references

pub seen_there : {R X : Type 0} (now : R → X) (units : List KitUnits) (f : ℕ →
    X) (rows : List X) (o : Option R) (class : ℕ) →
    rows ≡ row_of units f → option_map now o ≡ slice_get rows class → IfSome o (λ s. now s ≡ f class)
seen_there now units f rows None class e g = tt
seen_there now units f rows (Some s) class e g =
    row_get units f class (now s) (sym (g ∙ ap (λ r. slice_get r class) e))

pub seen_past : {R X : Type 0} (now : R → X) (units : List KitUnits) (f : ℕ →
    X) (rows : List X) (o : Option R) (class : ℕ) →
    rows ≡ row_of units f → option_map now o ≡ slice_get rows class → IfNone o (length (all_classes units) ≤ class)
seen_past now units f rows None class e g = row_past units f class (sym (g ∙ ap (λ r. slice_get r class) e))
seen_past now units f rows (Some s) class e g = tt
