-- What the laws of layouts say of a program and of its tables.
use Rattle.std.specs.Prelude.{◌≡◌, ◌+◌, ◌<◌, ◌≤◌, ℕ, false, List, length, map, Some, All, IsSomeAnd, IsTrue, is_some}
use Rattle.std.specs.Prelude.{slice_get}
use Rattle.std.specs.Option.{option_map_or}
use Rattle.sed_typed.specs.declared.program.Field.{Field}
use Rattle.sed_typed.specs.declared.program.Program.{Program}
use Rattle.sed_typed.specs.Classes.{fields, find, method_name, nearest}
use Rattle.sed_typed.specs.Sizes.{data_size}
use Rattle.sed_typed.specs.Typed.{statics_size}
use Rattle.sed_typed.specs.TypedSchema.{is_below}
use Rattle.sed_typed.specs.Virtual.{virtual_names}
use Rattle.sed_layout.specs.MethodTables.{KeepsPlaces, place_of, table_of}
use Rattle.sed_layout.specs.Offsets.{KeepsFields, field_width, offset_of, static_offset_of}

-- What they say of where its data lie.
pub record IsLaid (program : Program) : Type 0 where
  pub few_classes : length program.schema.classes ≤ 1024
  pub few_methods : length program.methods ≤ 61440
  pub within : (class number : ℕ) (f : Field) → slice_get (fields program class) number ≡ Some f →
      offset_of program class number + field_width program f ≤ data_size program class
  pub apart : (class first second : ℕ) (f : Field) → slice_get (fields program class) first ≡ Some f → first < second →
      offset_of program class first + field_width program f ≤ offset_of program class second
  pub wide : (class : ℕ) → All (λ f. 0 < field_width program f) (fields program class)
  pub statics_within : (number : ℕ) (f : Field) → slice_get program.statics number ≡ Some f →
      static_offset_of program number + field_width program f ≤ statics_size program
  pub statics_apart : (first second : ℕ) (f : Field) → slice_get program.statics first ≡ Some f → first < second →
      static_offset_of program first + field_width program f ≤ static_offset_of program second
  pub statics_wide : All (λ f. 0 < field_width program f) program.statics
  pub keeps : (above class : ℕ) → IsTrue (is_below program.schema.classes above class) → KeepsFields program above class

-- What they say of its tables.
pub record IsTabled (program : Program) : Type 0 where
  pub keeps_places : (above class : ℕ) → IsTrue (is_below program.schema.classes above class) →
      KeepsPlaces program above class
  pub has_place : (class : ℕ) (name : List ℕ) →
      is_some (place_of program class name) ≡ option_map_or (λ m. m.is_virtual) (nearest program class name) false
  pub at_place : (class place : ℕ) (name : List ℕ) → place_of program class name ≡ Some place →
      IsSomeAnd (slice_get (table_of program class) place) (λ number. find program class name ≡ Some number)
  pub names : (class : ℕ) → map (method_name program) (table_of program class) ≡ virtual_names program class
