-- The tables by which virtual methods are called: an override stands at the place of what it overrides.
use Rattle.std.specs.Prelude.{ℕ, ◌≡◌, true, false, IsTrue, List, Option, Some, filter_map, position, codes}
use Rattle.std.specs.Str.{bytes_eq}
use Rattle.sed_typed.specs.declared.program.Method.{Method}
use Rattle.sed_typed.specs.declared.program.Program.{Program}
use Rattle.sed_typed.specs.Classes.{find}
use Rattle.sed_typed.specs.TypedSchema.{Begins, is_below}
use Rattle.sed_typed.specs.Virtual.{virtual_names}

-- the table of a class: of each of its virtual methods, by name, the number of the one that is nearest at or above it
abbrev pub table_of : Program → ℕ → List ℕ
table_of program class = filter_map (find program class) (virtual_names program class)

-- the place of a name in the table of a class
abbrev pub place_of : Program → ℕ → List ℕ → Option ℕ
place_of program class name = position (λ other. bytes_eq other name) (virtual_names program class)

-- a method that may stand in the table of a class
pub record MayStand (program : Program) (class : ℕ) (m : Method) : Type 0 where
  pub virtual : m.is_virtual ≡ true
  pub instance : m.is_static ≡ false
  pub above : IsTrue (is_below program.schema.classes m.class.0 class)

-- the names of one class come first among those of another, and each has the place that it had
pub record KeepsPlaces (program : Program) (above class : ℕ) : Type 0 where
  pub first : Begins (virtual_names program above) (virtual_names program class)
  pub places : (name : List ℕ) (place : ℕ) → place_of program above name ≡ Some place →
      place_of program class name ≡ Some place

-- the places of the system methods of a component, which an engine calls
pub record HasSystemMethods (program : Program) (class : ℕ) : Type 0 where
  pub execute : place_of program class (codes "execute") ≡ Some 0
  pub start : place_of program class (codes "start") ≡ Some 1
  pub stop : place_of program class (codes "stop") ≡ Some 2
  pub changed : place_of program class (codes "changed") ≡ Some 3
