-- The virtual methods of a class.
use Rattle.std.specs.Prelude.{ℕ, ◌≡◌, ◌==◌, ◌&&◌, Bool, true, false, List, length, count_by, filter, map, reverse}
use Rattle.std.specs.Prelude.{sum_by}
use Rattle.std.specs.List.{flat_map, list_any}
use Rattle.std.specs.Option.{option_and_then, option_map_or}
use Rattle.std.specs.Str.{bytes_eq}
use Rattle.sed_typed.specs.declared.program.Method.{Method}
use Rattle.sed_typed.specs.declared.program.Program.{Program}
use Rattle.sed_typed.specs.Classes.{base_of, find, lineage}

-- a method of a class that is virtual and overrides none above
abbrev pub begins_virtual : Program → ℕ → Method → Bool
begins_virtual program class m =
    (m.class.0 == class) && m.is_virtual && option_map_or (λ _. false)
    (option_and_then (λ base. find program base m.name) (base_of program.schema.classes class)) true

-- the names of those, in the order of the methods
abbrev pub new_virtual_names : Program → ℕ → List (List ℕ)
new_virtual_names program class = map (λ m. m.name) (filter (begins_virtual program class) program.methods)

-- the names of the virtual methods of a class, those of its base first and then those that it begins; what overrides a
-- method keeps the inherited place
abbrev pub virtual_names : Program → ℕ → List (List ℕ)
virtual_names program class = flat_map (new_virtual_names program) (reverse (lineage program.schema.classes class))

-- a name is among them
abbrev pub has_virtual_name : Program → ℕ → List ℕ → Bool
has_virtual_name program class name = list_any (λ n. bytes_eq n name) (virtual_names program class)

-- there are as many as the classes at and above begin
abbrev pub AreCounted : Type 0
AreCounted =
    (program : Program) (class : ℕ) → length (virtual_names program class)
    ≡ sum_by (λ c. count_by (begins_virtual program c) program.methods) (lineage program.schema.classes class)
