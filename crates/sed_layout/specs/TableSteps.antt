-- A table made from that of the base: an own method stands in the place of an inherited one of its name, and the other
-- own ones that are virtual stand behind.
use Rattle.std.specs.Prelude.{ℕ, ◌+◌, ◌==◌, ◌&&◌, Bool, not, false, if◌then◌else◌, List, [], ◌∷◌, Option}
use Rattle.std.specs.Prelude.{find, slice_get, unwrap_or}
use Rattle.std.specs.List.{list_any}
use Rattle.std.specs.Option.{option_map_or}
use Rattle.std.specs.Str.{bytes_eq}
use Rattle.sed_typed.specs.declared.program.Method.{Method}
use Rattle.sed_typed.specs.declared.program.Program.{Program}
use Rattle.sed_typed.specs.Classes.{method_name}

-- the numbers of the methods that pass a test, where the first has this number
abbrev pub numbers_from : (Method → Bool) → ℕ → List Method → List ℕ
numbers_from test first [] = []
numbers_from test first (m ∷ ms) =
    if test m then first ∷ numbers_from test (first + 1) ms else numbers_from test (first + 1) ms

-- the methods that a class itself declares, by their numbers
abbrev pub own_methods : List Method → ℕ → List ℕ
own_methods methods class = numbers_from (λ m. m.class.0 == class) 0 methods

-- the first of some methods that has a name
abbrev pub named_among : Program → List ℕ → List ℕ → Option ℕ
named_among program numbers name = find (λ n. bytes_eq (method_name program n) name) numbers

-- what stands at the place of an inherited method
abbrev pub in_place_of : Program → List ℕ → ℕ → ℕ
in_place_of program own inherited = unwrap_or (named_among program own (method_name program inherited)) inherited

-- a method is virtual
abbrev pub is_virtual : Program → ℕ → Bool
is_virtual program number = option_map_or (λ m. m.is_virtual) (slice_get program.methods number) false

-- a method is virtual, and none of the inherited table has its name
abbrev pub is_new : Program → List ℕ → ℕ → Bool
is_new program inherited number =
    is_virtual program number
    && not (list_any (λ n. bytes_eq (method_name program n) (method_name program number)) inherited)
