-- Rows of the classes: one more, and that of one class; the fields behind those of a base, and how long a table is.
use Rattle.std.proofs.Common.{◌≡◌, ℕ, ◌+◌, ◌<◌, ◌≤◌, List, [], ◌∷◌, ◌++◌, get_or, map, Option, Some, None, refl, ap, sym, ◌∙◌, arith, append_assoc}
use Rattle.std.specs.Prelude.{length, slice_get}
use Rattle.std.specs.List.{range_with_len}
use Rattle.std.specs.Option.{option_map_or}
use Rattle.std.proofs.lemmas.List.FromFn.{get_or-map-range_with_len, length-map-range_with_len, map-range_with_len_more}
use Rattle.std.proofs.lemmas.List.{length-map}
use Rattle.std.proofs.lemmas.Option.{slice_get-get_or}
use Rattle.sed_typed.specs.declared.program.Program.{Program}
use Rattle.sed_typed.specs.declared.program.Field.{Field}
use Rattle.sed_typed.specs.Classes.{base_of, declared_fields, fields, method_name}
use Rattle.sed_typed.specs.Typed.{Typed}
use Rattle.sed_typed.specs.Virtual.{virtual_names}
use Rattle.sed_layout.specs.MethodTables.{table_of}
use Rattle.sed_layout.specs.Offsets.{of_classes}

pub one_more : {X : Type 0} (f : ℕ → X) (n : ℕ) (rows more : List X) (row : X) → rows ≡ map f (range_with_len 0 n) → row ≡ f n → more ≡ rows ++ row ∷ [] →
    more ≡ map f (range_with_len 0 (n + 1))
one_more {X} f n rows more row is here e =
    e
    ∙ ap (λ (x : X). rows ++ x ∷ []) here
    ∙ ap (λ (xs : List X). xs ++ f n ∷ []) is
    ∙ sym (map-range_with_len_more f 0 n n (omega arith))

pub row_is : {X : Type 0} (program : Program) (f : ℕ → List X) (rows : List (List X)) (class : ℕ) → rows ≡ of_classes program f → class < length program.schema.classes →
    option_map_or (λ (row : List X). row) (slice_get rows class) [] ≡ f class
row_is {X} program f rows class is h =
    let n = length program.schema.classes in
    let found : slice_get (map f (range_with_len 0 n)) class ≡ Some (get_or (map f (range_with_len 0 n)) class []) =
    slice_get-get_or (map f (range_with_len 0 n)) class [] (omega (arith, h, length-map-range_with_len f 0 n)) in
    ap (λ (all : List (List X)). option_map_or (λ (row : List X). row) (slice_get all class) []) is
    ∙ ap (λ (o : Option (List X)). option_map_or (λ (row : List X). row) o []) found
    ∙ get_or-map-range_with_len f 0 n class class [] h (omega arith)

-- the fields of a class behind those of its base, which stand behind others
pub behind_base : (program : Program) (class : ℕ) (old mid new row : List Field) →
    ((base : ℕ) → base_of program.schema.classes class ≡ Some base → fields program class ≡ fields program base ++ declared_fields program.fields class) →
    (base_of program.schema.classes class ≡ None → fields program class ≡ declared_fields program.fields class) →
    mid ≡ old ++ option_map_or (fields program) (base_of program.schema.classes class) [] → row ≡ declared_fields program.fields class → new ≡ mid ++ row →
    new ≡ old ++ fields program class
behind_base program class old mid new row base alone is own e =
    e
    ∙ ap (λ (xs : List Field). xs ++ row) is
    ∙ ap (λ (xs : List Field). (old ++ option_map_or (fields program) (base_of program.schema.classes class) []) ++ xs) own
    ∙ append_assoc old (option_map_or (fields program) (base_of program.schema.classes class) []) (declared_fields program.fields class)
    ∙ ap (λ (xs : List Field). old ++ xs) (by_base (base_of program.schema.classes class) refl)
  where
    by_base : (o : Option ℕ) → base_of program.schema.classes class ≡ o → option_map_or (fields program) o [] ++ declared_fields program.fields class ≡ fields program class
    by_base None t = sym (alone t)
    by_base (Some b) t = sym (base b t)

-- a table has at most 255 places
pub table_few : (program : Program) → Typed program → (class : ℕ) (table : List ℕ) → class < length program.schema.classes →
    map (method_name program) (table_of program class) ≡ virtual_names program class → table ≡ table_of program class → length table ≤ 255
table_few program typed class table h names is =
    let most : length (virtual_names program class) ≤ 255 = (typed.members class h).virtual_most in
    omega (arith, ap length is, ap length names, length-map (table_of program class) (method_name program))
