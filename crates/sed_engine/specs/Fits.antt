-- Contents that fit the fields of their class.
use Rattle.std.specs.Prelude.{ℕ, ◌≡◌, ◌==◌, ◌&&◌, nat_lt, Bool, false, IsTrue, if◌then◌else◌, List, [], ◌∷◌, length}
use Rattle.std.specs.Prelude.{map, slice_get, Option, Some, None}
use Rattle.std.specs.List.{list_all}
use Rattle.std.specs.Option.{option_map, option_map_or}
use Rattle.sed_value.specs.Value.{are_bytes, is_of_type}
use Rattle.sed_value.specs.declared.value.Value.{Value}
use Rattle.sed_value.specs.declared.value.Value.TheVariants as kept
use Rattle.sed_value.specs.declared.slot_type.SlotType.TheVariants as slot
use Rattle.sed_typed.specs.declared.program.FieldForm.{FieldForm}
use Rattle.sed_typed.specs.declared.program.FieldForm.TheVariants.{Prim, Str, Buf, Array, Object}
use Rattle.sed_engine.specs.Values.{last_byte}
use Rattle.sed_typed.specs.Contents.{Path, Contents, Shape}

-- the form of a field by its number
abbrev pub form_at : List Shape → ℕ → Option FieldForm
form_at shapes i = option_map (λ f. f.form) (slice_get shapes i)

-- what stands inside a field: an element of an array, or a field of an inline object
abbrev pub part_of : (ℕ → List Shape) → FieldForm → ℕ → Option FieldForm
part_of fields (Prim p) i = None
part_of fields (Str n) i = None
part_of fields (Buf n) i = None
part_of fields (Array p n) i = if nat_lt i n then Some (Prim p) else None
part_of fields (Object t) i = form_at (fields t.0) i

-- the form at a path inside a field
abbrev pub form_below : (ℕ → List Shape) → Path → Option FieldForm → Option FieldForm
form_below fields path None = None
form_below fields [] (Some form) = Some form
form_below fields (i ∷ path) (Some form) = form_below fields path (part_of fields form i)

-- the form at a path from an object with these fields
abbrev pub form_of : (ℕ → List Shape) → List Shape → Path → Option FieldForm
form_of fields shapes [] = None
form_of fields shapes (i ∷ path) = form_below fields path (form_at shapes i)

-- a value that a field of this form keeps; an array and an object keep none of their own
abbrev pub keeps : FieldForm → Value → Bool
keeps (Prim p) v = is_of_type (slot.Prim p) v
keeps (Str n) (kept.Buf bytes) = are_bytes bytes && (length bytes == n) && (last_byte bytes == 0)
keeps (Str n) v = false
keeps (Buf n) v = is_of_type (slot.Buf n) v
keeps (Array p n) v = false
keeps (Object t) v = false

abbrev pub is_kept : Option FieldForm → Value → Bool
is_kept form v = option_map_or (λ f. keeps f v) form false

-- each value is of the form at its path
abbrev pub all_kept : (Path → Option FieldForm) → Contents → Bool
all_kept form contents = list_all (λ e. is_kept (form e.0) e.1) contents

-- the paths are those of first contents, in their order, and each value is of the form at its path
pub record Fits (fields : ℕ → List Shape) (shapes : List Shape) (first contents : Contents) : Type 0 where
  pub paths : map (λ e. e.0) contents ≡ map (λ e. e.0) first
  pub values : IsTrue (all_kept (form_of fields shapes) contents)
