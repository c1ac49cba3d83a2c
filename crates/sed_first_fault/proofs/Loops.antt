-- Loops over the classes that units declare, which keep the first fault so far.
use Rattle.std.proofs.Common.{◌≡◌, ◌<◌, ◌≤◌, ℕ, suc, ◌+◌, inl, inr, List, [], ◌∷◌, ◌++◌, map, drop, get_or, length}
use Rattle.std.proofs.Common.{Option, refl, sym, ap, ◌∙◌, arith, add-one, drop-cons}
use Rattle.std.specs.List.{flat_map}
use Rattle.std.specs.Option.{option_map_or}
use Rattle.std.proofs.lemmas.List.{drop_all}
use Rattle.std.proofs.lemmas.List.FromFn.{get_or-map-range_with_len, length-map-range_with_len}
use Rattle.std.proofs.lemmas.Option.{slice_get_cases}
use Rattle.sed_classes.specs.declared.kit_units.KitUnits.{KitUnits}
use Rattle.sed_classes.specs.declared.source_type.PlacedFault.{PlacedFault}
use Rattle.sed_classes.specs.Declarations.{Declaration, all_classes, class_at}
use Rattle.sed_classes.specs.Faults.{declaration_faults, faults_from, faults_of, first_of, placed_in}
use Rattle.sed_outline.specs.Rounds.{row_of}
use Rattle.sed_first_fault.specs.Faults.{spelled_faults_of, spelled_in}
use Rattle.sed_first_fault.specs.Parts.{declared_at, lesser, spelled_at}
use Rattle.sed_first_fault.proofs.Together.{lesser_assoc, lesser_none, together}

-- ---- rows

row_len : {X : Type 0} (units : List KitUnits) (f : ℕ → X) → length (row_of units f) ≡ length (all_classes units)
row_len units f = length-map-range_with_len f 0 (length (all_classes units))

pub row_item : {X : Type 0} (units : List KitUnits) (f : ℕ → X) (row : List X) (class : ℕ) (x : X) →
    row ≡ row_of units f → class < length row → get_or row class x ≡ f class
row_item units f row class x e h =
    let within : class < length (all_classes units) = omega (arith, h, ap length e, row_len units f) in
    let at : 0 + class ≡ class = omega arith in
    ap (λ r. get_or r class x) e ∙ get_or-map-range_with_len f 0 (length (all_classes units)) class class x within at

pub row_end : {X : Type 0} (units : List KitUnits) (f : ℕ → X) (row : List X) (class : ℕ) → row ≡ row_of units f →
    length row ≤ class → length (all_classes units) ≤ class
row_end units f row class e h = omega (arith, h, ap length e, row_len units f)

-- ---- what is left of the classes, before and after one of them

next : (units : List KitUnits) (said : Declaration → List PlacedFault)
    (all behind : List Declaration → List PlacedFault) (class : ℕ) →
    ((d : Declaration) (ds : List Declaration) → all (d ∷ ds) ≡ said d ++ behind ds) → all [] ≡ [] → behind [] ≡ [] →
    all (drop class (all_classes units))
    ≡ option_map_or said (class_at units class) [] ++ behind (drop (class + 1) (all_classes units))
next units said all behind class cons none none_behind =
    elim (slice_get_cases (all_classes units) class).1 [
      | inl (x, lt, there, is) ↦
          ap all (drop-cons (all_classes units) class x lt ∙ ap (λ y. y ∷ drop (suc class) (all_classes units)) is)
          ∙ cons x (drop (suc class) (all_classes units))
          ∙ ap (λ o. option_map_or said o [] ++ behind (drop (suc class) (all_classes units))) (sym there)
          ∙ ap
          (λ n. option_map_or said (class_at units class) [] ++ behind (drop n (all_classes units)))
          (sym (add-one class))
      | inr (past, absent) ↦
          let farther : length (all_classes units) ≤ class + 1 = omega (arith, past) in
          ap all (drop_all class (all_classes units) past)
          ∙ none
          ∙ sym (ap behind (drop_all (class + 1) (all_classes units) farther) ∙ none_behind)
          ∙ ap (λ o. option_map_or said o [] ++ behind (drop (class + 1) (all_classes units))) (sym absent)
    ]

step : (far one new : Option PlacedFault) (all here behind : List PlacedFault) (total : Option PlacedFault) →
    all ≡ here ++ behind → one ≡ first_of here → new ≡ lesser far one → lesser far (first_of all) ≡ total →
    lesser new (first_of behind) ≡ total
step far one new all here behind total e o n i =
    ap (λ a. lesser a (first_of behind)) n
    ∙ lesser_assoc far one (first_of behind)
    ∙ ap (λ a. lesser far (lesser a (first_of behind))) o
    ∙ ap (lesser far) (sym (together here behind))
    ∙ ap (λ xs. lesser far (first_of xs)) (sym e)
    ∙ i

ended : (far : Option PlacedFault) (rest : List PlacedFault) (total : Option PlacedFault) → rest ≡ [] →
    lesser far (first_of rest) ≡ total → far ≡ total
ended far rest total e i = sym (lesser_none far) ∙ ap (λ xs. lesser far (first_of xs)) (sym e) ∙ i

-- ---- what classes declare

pub declared_next : (units : List KitUnits) (class : ℕ) (far one new : Option PlacedFault) →
    one ≡ first_of (declared_at units class) → new ≡ lesser far one →
    lesser far (first_of (faults_from units class (drop class (all_classes units)))) ≡ first_of (faults_of units) →
    lesser new (first_of (faults_from units (class + 1) (drop (class + 1) (all_classes units))))
    ≡ first_of (faults_of units)
declared_next units class far one new o n i =
    step
    far
    one
    new
    (faults_from units class (drop class (all_classes units)))
    (declared_at units class)
    (faults_from units (class + 1) (drop (class + 1) (all_classes units)))
    (first_of (faults_of units))
    (next
    units
    (λ d. map (placed_in d) (declaration_faults units class d))
    (faults_from units class)
    (faults_from units (class + 1))
    class
    (λ d ds. refl)
    refl
    refl)
    o
    n
    i

pub declared_end : (units : List KitUnits) (class : ℕ) (far : Option PlacedFault) → length (all_classes units) ≤ class →
    lesser far (first_of (faults_from units class (drop class (all_classes units)))) ≡ first_of (faults_of units) →
    far ≡ first_of (faults_of units)
declared_end units class far h i =
    ended
    far
    (faults_from units class (drop class (all_classes units)))
    (first_of (faults_of units))
    (ap (faults_from units class) (drop_all class (all_classes units) h))
    i

-- ---- how classes are spelled

unfoldable pub spelled_from : List Declaration → List PlacedFault
spelled_from ds = flat_map (λ (d : Declaration). map (placed_in d) (spelled_in d)) ds

pub spelled_begin : (units : List KitUnits) →
    first_of (spelled_from (drop 5 (all_classes units))) ≡ first_of (spelled_faults_of units)
unfolding all_classes spelled_from
spelled_begin units = refl

pub spelled_next : (units : List KitUnits) (class : ℕ) (far one new : Option PlacedFault) →
    one ≡ first_of (spelled_at units class) → new ≡ lesser far one →
    lesser far (first_of (spelled_from (drop class (all_classes units)))) ≡ first_of (spelled_faults_of units) →
    lesser new (first_of (spelled_from (drop (class + 1) (all_classes units)))) ≡ first_of (spelled_faults_of units)
unfolding spelled_from
spelled_next units class far one new o n i =
    step
    far
    one
    new
    (spelled_from (drop class (all_classes units)))
    (spelled_at units class)
    (spelled_from (drop (class + 1) (all_classes units)))
    (first_of (spelled_faults_of units))
    (next units (λ d. map (placed_in d) (spelled_in d)) spelled_from spelled_from class (λ d ds. refl) refl refl)
    o
    n
    i

pub spelled_end : (units : List KitUnits) (class : ℕ) (far : Option PlacedFault) → length (all_classes units) ≤ class →
    lesser far (first_of (spelled_from (drop class (all_classes units)))) ≡ first_of (spelled_faults_of units) →
    far ≡ first_of (spelled_faults_of units)
unfolding spelled_from
spelled_end units class far h i =
    ended
    far
    (spelled_from (drop class (all_classes units)))
    (first_of (spelled_faults_of units))
    (ap spelled_from (drop_all class (all_classes units) h))
    i
