-- What a class has, its own and what it inherits.
use Rattle.std.specs.Prelude.{ℕ, zero, suc, ◌==◌, ◌&&◌, List, [], ◌∷◌, length, filter, position, reverse, slice_get}
use Rattle.std.specs.Prelude.{Option, Some, None}
use Rattle.std.specs.List.{flat_map}
use Rattle.std.specs.Option.{option_and_then, option_map, option_map_or}
use Rattle.std.specs.Str.{bytes_eq}
use Rattle.sed_typed.specs.declared.schema.ClassInfo.{ClassInfo}
use Rattle.sed_typed.specs.declared.schema.SlotInfo.{SlotInfo}
use Rattle.sed_typed.specs.declared.program.Field.{Field}
use Rattle.sed_typed.specs.declared.program.Method.{Method}
use Rattle.sed_typed.specs.declared.program.Program.{Program}

-- the base of a class
abbrev pub base_of : List ClassInfo → ℕ → Option ℕ
base_of classes class = option_and_then (λ info. option_map (λ base. base.0) info.base) (slice_get classes class)

-- what is reached from a start by going on, in at most so many steps
abbrev pub reached : (ℕ → Option ℕ) → ℕ → Option ℕ → List ℕ
reached next zero at = []
reached next (suc steps) None = []
reached next (suc steps) (Some at) = at ∷ reached next steps (next at)

-- a class, its base, the base of that, and so on; no class stands among them twice
abbrev pub lineage : List ClassInfo → ℕ → List ℕ
lineage classes class = reached (base_of classes) (length classes) (Some class)

-- the first that is found, from the left
abbrev pub first_found : (ℕ → Option ℕ) → List ℕ → Option ℕ
first_found look [] = None
first_found look (at ∷ rest) = found_or (look at) (first_found look rest)
  where
    found_or : Option ℕ → Option ℕ → Option ℕ
    found_or (Some n) rest = Some n
    found_or None rest = rest

-- the instance fields that a class itself declares
abbrev pub declared_fields : List Field → ℕ → List Field
declared_fields fields class = filter (λ f. f.class.0 == class) fields

-- the instance fields of a class, inherited ones first; a field's number is its place here
abbrev pub fields : Program → ℕ → List Field
fields program class =
    flat_map (declared_fields program.fields) (reverse (lineage program.schema.classes class))

-- the slots of a class, inherited ones first
abbrev pub slots : List ClassInfo → ℕ → List SlotInfo
slots classes class = option_map_or (λ info. info.slots) (slice_get classes class) []

-- the methods that a class itself declares
abbrev pub declared_methods : List Method → ℕ → List Method
declared_methods methods class = filter (λ m. m.class.0 == class) methods

-- the number of the method of this name that a class itself declares
abbrev pub declared_method : List Method → List ℕ → ℕ → Option ℕ
declared_method methods name class = position (λ m. (m.class.0 == class) && bytes_eq m.name name) methods

-- the number of the method of this name that is nearest at or above a class
abbrev pub find : Program → ℕ → List ℕ → Option ℕ
find program class name =
    first_found (declared_method program.methods name) (lineage program.schema.classes class)

-- that method
abbrev pub nearest : Program → ℕ → List ℕ → Option Method
nearest program class name = option_and_then (slice_get program.methods) (find program class name)

-- the name of a method
abbrev pub method_name : Program → ℕ → List ℕ
method_name program method = option_map_or (λ m. m.name) (slice_get program.methods method) []

-- the name of a slot
abbrev pub slot_name : List ClassInfo → ℕ → ℕ → List ℕ
slot_name classes class slot = option_map_or (λ s. s.name) (slice_get (slots classes class) slot) []
