-- First contents have a value for each property.
use Rattle.std.proofs.Common.{◌≡◌, ℕ, ◌<◌, true, [], ◌∷◌, length, Option, Some, None, sym, ap, subst, inl, inr}
use Rattle.std.specs.Prelude.{IfSome, IsSome, IsSomeAnd, is_some, position, slice_get}
use Rattle.std.specs.Option.{option_map, option_map_or}
use Rattle.std.proofs.lemmas.Bool.{cases_lt}
use Rattle.std.proofs.lemmas.Option.{IfSome_then, slice_get_past}
use Rattle.sed_value.specs.declared.slot_type.SlotType.{SlotType}
use Rattle.sed_value.specs.declared.slot_type.SlotType.TheVariants as slot
use Rattle.sed_typed.specs.declared.program.Program.{Program}
use Rattle.sed_typed.specs.declared.schema.ClassInfo.{ClassInfo}
use Rattle.sed_typed.specs.Classes.{fields}
use Rattle.sed_typed.specs.Contents.{value_at}
use Rattle.sed_typed.specs.Initial.{initial}
use Rattle.sed_typed.specs.Typed.{Typed}
use Rattle.sed_typed.specs.TypedSchema.{in_slot}
use Rattle.sed_engine.specs.Code.{property_type, slot_type, slot_path}
use Rattle.sed_engine.specs.Fits.{form_below, form_of}
use Rattle.sed_engine.specs.Program.{code_of}
use Rattle.sed_engine.specs.Whole.{field_form}
use Rattle.sed_engine.proofs.FirstPaths.{IsLeaf, has, initial_has, shapes_of, value_there}
use Rattle.sed_engine.proofs.SlotFields.{HasForm, slot_fields_of}

is_leaf : (t : SlotType) → IsLeaf (field_form t)
is_leaf (slot.Prim p) = tt
is_leaf (slot.Buf n) = tt

there_at : (program : Program) → Typed program → (class : ℕ) → class < length program.schema.classes → (t : SlotType) → (o : Option ℕ) → IsSomeAnd o (HasForm program class t) →
    IsSome (value_at (initial program class) (option_map_or (λ i. i ∷ []) o []))
there_at program typed class known t None h = absurd h
there_at program typed class known t (Some i) h =
    let form : form_of (shapes_of program) (shapes_of program class) (i ∷ []) ≡ Some (field_form t) = ap (form_below (shapes_of program) []) h in
    let there : has (initial program class) (i ∷ []) ≡ true = initial_has program typed class known (i ∷ []) (field_form t) (is_leaf t) form in
    ap is_some (value_there (initial program class) (i ∷ []) there).1

pub values_of : (program : Program) → Typed program → (class n : ℕ) →
    IfSome (slot_type (code_of program) class n) (λ t. IsSome (value_at (initial program class) (slot_path (code_of program) class n)))
values_of program typed class n = elim (cases_lt class (length program.schema.classes)) [
  | inl known ↦ IfSome_then (slot_type (code_of program) class n) (slot_fields_of program typed class n) (λ t h. there_at program typed class known t (position (in_slot n) (fields program class)) h)
  | inr past ↦
      subst (λ (o : Option ClassInfo). IfSome (property_type (option_map (λ s. s.form) (slice_get (option_map_or (λ info. info.slots) o []) n))) (λ t. IsSome (value_at (initial program class) (slot_path (code_of program) class n))))
      (sym (slice_get_past program.schema.classes class past)) tt
]
