-- Rows of the classes: one more, and that of a base among those of the classes before a class.
use Rattle.std.proofs.Common.{◌≡◌, ℕ, ◌+◌, ◌<◌, List, [], ◌∷◌, ◌++◌, get_or, map, Option, Some, ap, sym, ◌∙◌, arith}
use Rattle.std.specs.Prelude.{slice_get}
use Rattle.std.specs.List.{range_with_len}
use Rattle.std.specs.Option.{option_map_or}
use Rattle.std.proofs.lemmas.List.FromFn.{get_or-map-range_with_len, length-map-range_with_len, map-range_with_len_more}
use Rattle.std.proofs.lemmas.Option.{slice_get-get_or}
use Rattle.sed_typed.specs.declared.program.Program.{Program}
use Rattle.sed_typed.specs.Classes.{base_of}
use Rattle.sed_typed.specs.Typed.{Typed}
use Rattle.sed_typed.proofs.Lineages.{has_base}

pub looked_up : (program : Program) → Typed program → (f : ℕ → List ℕ) (class base : ℕ) (rows : List (List ℕ)) → rows ≡ map f (range_with_len 0 class) →
    base_of program.schema.classes class ≡ Some base → option_map_or (λ (row : List ℕ). row) (slice_get rows base) [] ≡ f base
looked_up program typed f class base rows is e =
    let before : base < class = (has_base program typed class base e).before in
    let found : slice_get (map f (range_with_len 0 class)) base ≡ Some (get_or (map f (range_with_len 0 class)) base []) =
    slice_get-get_or (map f (range_with_len 0 class)) base [] (omega (arith, before, length-map-range_with_len f 0 class)) in
    ap (λ (all : List (List ℕ)). option_map_or (λ (row : List ℕ). row) (slice_get all base) []) is
    ∙ ap (λ (o : Option (List ℕ)). option_map_or (λ (row : List ℕ). row) o []) found
    ∙ get_or-map-range_with_len f 0 class base base [] before (omega arith)

pub row_more : (f : ℕ → List ℕ) (class : ℕ) (rows more : List (List ℕ)) (row : List ℕ) → rows ≡ map f (range_with_len 0 class) → row ≡ f class → more ≡ rows ++ row ∷ [] →
    more ≡ map f (range_with_len 0 (class + 1))
row_more f class rows more row is here e =
    e
    ∙ ap (λ (x : List ℕ). rows ++ x ∷ []) here
    ∙ ap (λ (xs : List (List ℕ)). xs ++ f class ∷ []) is
    ∙ sym (map-range_with_len_more f 0 class class (omega arith))
