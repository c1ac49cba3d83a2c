-- The fields of a class are those of its base and then its own.
use Rattle.std.proofs.Common.{◌≡◌, ℕ, List, [], ◌∷◌, ◌++◌, reverse, Some, ap, ◌∙◌}
use Rattle.std.specs.Prelude.{All, ◌==◌}
use Rattle.std.specs.List.{flat_map}
use Rattle.std.proofs.lemmas.Grind.{reverse_onto, flat_map-append}
use Rattle.std.proofs.lemmas.List.Elements.{All-nil, All-append, All-filter}
use Rattle.sed_typed.specs.declared.program.Field.{Field}
use Rattle.sed_typed.specs.declared.program.Program.{Program}
use Rattle.sed_typed.specs.Classes.{base_of, lineage, declared_fields, fields}
use Rattle.sed_typed.specs.Typed.{Typed}
pub use Rattle.sed_typed.proofs.Lineages.{has_base, has_info, lineage_of_base, none_is, none_reached}

-- ---- fields

reverse_first : (x : ℕ) (xs : List ℕ) → reverse (x ∷ xs) ≡ reverse xs ++ (x ∷ [])
reverse_first x xs = reverse_onto xs x []

pub fields_of_base : (program : Program) → Typed program → (class base : ℕ) → base_of program.schema.classes class ≡ Some base →
    fields program class ≡ fields program base ++ flat_map (declared_fields program.fields) (class ∷ [])
fields_of_base program typed class base e =
    ap (λ (all : List ℕ). flat_map (declared_fields program.fields) (reverse all)) (lineage_of_base program typed class base e)
    ∙ ap (flat_map (declared_fields program.fields)) (reverse_first class (lineage program.schema.classes base))
    ∙ flat_map-append (declared_fields program.fields) (reverse (lineage program.schema.classes base)) (class ∷ [])

All-flat_map : (P : Field → Type 0) (all : List Field) → All P all → (classes : List ℕ) → All P (flat_map (declared_fields all) classes)
All-flat_map P all h [] = All-nil P
All-flat_map P all h (c ∷ cs) =
    All-append P (declared_fields all c) (flat_map (declared_fields all) cs) (All-filter (λ f. f.class.0 == c) P all h) (All-flat_map P all h cs)

-- what holds of each field of a program holds of each field of a class
pub of_fields : (P : Field → Type 0) (program : Program) → All P program.fields → (class : ℕ) → All P (fields program class)
of_fields P program h class = All-flat_map P program.fields h (reverse (lineage program.schema.classes class))
