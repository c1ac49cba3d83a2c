-- What a row of all places has at each.
use Rattle.std.proofs.Common.{◌≡◌, ◌≤◌, ℕ, zero, suc, ◌+◌, map, length, List, Option, None, unwrap_or, slice_get, sym, ap, ◌∙◌, arith}
use Rattle.std.specs.List.{range_with_len}
use Rattle.std.specs.Option.{option_and_then}
use Rattle.std.proofs.lemmas.Option.{slice_get_past}
use Rattle.sed_classes.specs.declared.kit_units.KitUnits.{KitUnits}
use Rattle.sed_classes.specs.Declarations.{Declaration, all_classes}
use Rattle.sed_classes.specs.Bases.{base_of, base_written}

get_range : (f : ℕ → Option ℕ) (a n i : ℕ) → (n ≤ i → f (a + i) ≡ None) → unwrap_or (slice_get (map f (range_with_len a n)) i) None ≡ f (a + i)
get_range f a zero i past = sym (past (omega arith))
get_range f a (suc n) zero past = let e : a ≡ a + 0 = omega arith in ap f e
get_range f a (suc n) (suc i) past =
    let e : a + 1 + i ≡ a + suc i = omega arith in
    let behind : n ≤ i → f (a + 1 + i) ≡ None = λ le. ap f e ∙ past (omega (arith, le)) in
    get_range f (a + 1) n i behind ∙ ap f e

-- a place behind all classes has no base
none_behind : (units : List KitUnits) (class : ℕ) → length (all_classes units) ≤ class → base_of units class ≡ None
none_behind units class le =
    ap (λ found. option_and_then (λ (d : Declaration). base_written units class d.kit d.class.base) found) (slice_get_past (all_classes units) class le)

-- the row of all bases has the base of each class
pub base_found : (units : List KitUnits) (class : ℕ) →
    unwrap_or (slice_get (map (base_of units) (range_with_len 0 (length (all_classes units)))) class) None ≡ base_of units class
base_found units class =
    let e : 0 + class ≡ class = omega arith in
    let past : length (all_classes units) ≤ class → base_of units (0 + class) ≡ None = λ le. ap (base_of units) e ∙ none_behind units class le in
    get_range (base_of units) 0 (length (all_classes units)) class past ∙ ap (base_of units) e

-- a row of bases gives the base of each class
pub base_seen : (units : List KitUnits) (class : ℕ) (bases : List (Option ℕ)) (r : Option ℕ) →
    bases ≡ map (base_of units) (range_with_len 0 (length (all_classes units))) → r ≡ unwrap_or (slice_get bases class) None → r ≡ base_of units class
base_seen units class bases r e at = at ∙ ap (λ row. unwrap_or (slice_get row class) None) e ∙ base_found units class
