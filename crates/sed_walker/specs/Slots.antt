-- The objects that cells stand for, and the cells behind slots.
use Rattle.std.specs.Prelude.{ℕ, ◌≡◌, ◌<◌, List, length, slice_get, slice_index_or, slice_set, IfSome, Option, None}
use Rattle.std.specs.Prelude.{Vec}
use Rattle.std.specs.declared.alloc.Global.{Global}
use Rattle.std.specs.Option.{option_map}
use Rattle.sed_value.specs.declared.value.Value.{Value}
use Rattle.sed_value.specs.declared.value.Value.TheVariants as kept
use Rattle.sed_typed.specs.Classes.{slots}
use Rattle.sed_typed.specs.Contents.{Path, value_at, with_value}
use Rattle.sed_engine.specs.Code.{Object, slot_path}
use Rattle.sed_engine.specs.Program.{meaning_of}
use Rattle.sed_cells.specs.Places.{Plan, contents_of}

-- the object of a class that cells with these values stand for
abbrev pub object_of : Plan → ℕ → List Value → Object
object_of plan class values = record { class = class; contents = contents_of plan class values }

-- the path of the field behind a slot; that of the whole object, where no value is kept, if there is none
abbrev pub path_behind : Plan → ℕ → ℕ → Path
path_behind plan class slot = slot_path (meaning_of plan.program) class slot

-- the cell behind a slot: what is there is the value at the slot's path, and what is put there is put at that path;
-- without a cell no value is kept at the path
pub record IsCell (plan : Plan) (class slot : ℕ) (cell : Option ℕ) : Type 0 where
  pub read : (values : List Value) →
      value_at (contents_of plan class values) (path_behind plan class slot)
      ≡ option_map (λ n. slice_index_or values n kept.Nothing) cell
  pub written : IfSome cell (λ n. (values : List Value) (v : Value) → n < length values →
      contents_of plan class (slice_set values n v)
      ≡ with_value (contents_of plan class values) (path_behind plan class slot) v)

-- a cell for each slot of a class
pub record IsRow (plan : Plan) (class : ℕ) (row : List (Option ℕ)) : Type 0 where
  pub many : length row ≡ length (slots plan.program.schema.classes class)
  pub each : (slot : ℕ) → slot < length row → IsCell plan class slot (slice_index_or row slot None)

-- a row for each of the first classes
abbrev pub AreRows : Plan → List (Vec (Option ℕ) Global) → Type 0
AreRows plan rows = (class : ℕ) → IfSome (slice_get rows class) (λ row. IsRow plan class row.items)
