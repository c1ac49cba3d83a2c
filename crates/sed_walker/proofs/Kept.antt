-- What a property of an object that may be kept holds.
use Rattle.std.proofs.Common.{ℕ, ◌≡◌, ◌<◌, ◌≤◌, Bool, true, false, refl, sym, ◌∙◌, ap, subst, arith, length, inl, inr}
use Rattle.std.specs.Prelude.{Option, Some, None, IsTrue, is_some, List, [], All, slice_get, slice_set, ◌&&◌, nat_le}
use Rattle.std.specs.Option.{option_map, option_map_or}
use Rattle.std.proofs.Math.ListN.{get_or, get_or-eq_default}
use Rattle.std.proofs.lemmas.Bool.{cases_lt}
use Rattle.std.proofs.lemmas.Bool.Decides.{nat_tests}
use Rattle.std.proofs.lemmas.Option.{slice_get-get_or}
use Rattle.sed_value.specs.Value.{is_of_type, stored}
use Rattle.sed_value.specs.declared.slot_type.Primitive.{Primitive}
use Rattle.sed_value.specs.declared.slot_type.Primitive.TheVariants as prim
use Rattle.sed_value.specs.declared.slot_type.SlotType.{SlotType}
use Rattle.sed_value.specs.declared.slot_type.SlotType.TheVariants.{Prim, Buf}
use Rattle.sed_value.specs.declared.value.Value.{Value}
use Rattle.sed_value.specs.declared.value.Value.TheVariants as kept
use Rattle.sed_typed.specs.declared.schema.ClassInfo.{ClassInfo}
use Rattle.sed_typed.specs.declared.schema.Schema.{Schema}
use Rattle.sed_typed.specs.declared.schema.SlotForm.{SlotForm}
use Rattle.sed_typed.specs.declared.schema.SlotForm.TheVariants.{Prop, Action}
use Rattle.sed_typed.specs.declared.schema.SlotInfo.{SlotInfo}
use Rattle.sed_typed.specs.Classes.{slots}
use Rattle.sed_typed.specs.Contents.{Contents, value_at, with_value}
use Rattle.sed_engine.specs.Code.{property_type, slot_path, slot_type, slot_value, with_slot}
use Rattle.sed_engine.specs.Program.{meaning_of}
use Rattle.sed_engine.specs.Whole.{HasBufSize, HasTables, IsObject, KeepsLimits}
use Rattle.sed_cells.specs.Cells.{IsLong, are_bytes}
use Rattle.sed_cells.specs.Places.{Plan, contents_of}
use Rattle.sed_walker.specs.Slots.{IsCell, object_of}
use Rattle.sed_engine.proofs.KeptSlots.{property_is_of_type, value}
use Rattle.sed_value.proofs.Lists.{at_place}

no : {P : Type 0} → false ≡ true → P
no e = let never : ⊥ = cc in absurd never

-- ---- bytes

no_bytes : (p : Primitive) (bytes : List ℕ) → IsTrue (is_of_type (Prim p) (kept.Buf bytes)) → ⊥
no_bytes prim.Bool bytes h = no h
no_bytes prim.Byte bytes h = no h
no_bytes prim.Short bytes h = no h
no_bytes prim.Int bytes h = no h
no_bytes prim.Long bytes h = no h

no_value : (t : SlotType) → IsTrue (is_of_type t kept.Nothing) → ⊥
no_value (Prim prim.Bool) h = no h
no_value (Prim prim.Byte) h = no h
no_value (Prim prim.Short) h = no h
no_value (Prim prim.Int) h = no h
no_value (Prim prim.Long) h = no h
no_value (Buf n) h = no h

bytes_of_buf : (n : ℕ) (v : Value) → IsTrue (is_of_type (Buf n) v) → IsTrue (are_bytes v)
bytes_of_buf n (kept.Bool x) h = no h
bytes_of_buf n (kept.Byte x) h = no h
bytes_of_buf n (kept.Short x) h = no h
bytes_of_buf n (kept.Int x) h = no h
bytes_of_buf n (kept.Long x) h = no h
bytes_of_buf n (kept.Buf bytes) h = refl
bytes_of_buf n kept.Nothing h = no h

-- of two values of one type both are bytes or neither is
both_bytes : (t : SlotType) (v w : Value) → IsTrue (is_of_type t v) → IsTrue (is_of_type t w) → IsTrue (are_bytes v) → IsTrue (are_bytes w)
both_bytes t (kept.Bool x) w hv hw h = no h
both_bytes t (kept.Byte x) w hv hw h = no h
both_bytes t (kept.Short x) w hv hw h = no h
both_bytes t (kept.Int x) w hv hw h = no h
both_bytes t (kept.Long x) w hv hw h = no h
both_bytes (Prim p) (kept.Buf bytes) w hv hw h = absurd (no_bytes p bytes hv)
both_bytes (Buf n) (kept.Buf bytes) w hv hw h = bytes_of_buf n w hw
both_bytes t kept.Nothing w hv hw h = no h

short_enough : (a : Bool) (k n : ℕ) → (a && nat_le k n) ≡ true → k ≤ n
short_enough true k n h = grind (arith, nat_tests)
short_enough false k n h = no h

-- no value of a slot's type has more bytes than a buffer holds
not_long : (t : SlotType) (v : Value) → HasBufSize (Prop t) → IsTrue (is_of_type t v) → IsLong v → ⊥
not_long t (kept.Bool x) size h long = long
not_long t (kept.Byte x) size h long = long
not_long t (kept.Short x) size h long = long
not_long t (kept.Int x) size h long = long
not_long t (kept.Long x) size h long = long
not_long (Prim p) (kept.Buf bytes) size h long = no_bytes p bytes h
not_long (Buf n) (kept.Buf bytes) size h long = let few : length bytes ≤ n = short_enough _ (length bytes) n h in let most : n ≤ 128 = size.1 in omega (arith, few, most, long)
not_long t kept.Nothing size h long = long

-- ---- the size of a slot's Buf

module _ (schema : Schema) (keeps_limits : KeepsLimits schema) (class slot : ℕ) where
  slot_size : (s : SlotInfo) → slice_get (slots schema.classes class) slot ≡ Some s → HasBufSize s.form
  slot_size s is = by_class (slice_get schema.classes class) refl is
    where
      by_class : (r : Option ClassInfo) → slice_get schema.classes class ≡ r → slice_get (option_map_or (λ (c : ClassInfo). c.slots) r []) slot ≡ Some s → HasBufSize s.form
      by_class None e at = absurd (let never = ap is_some at in cc)
      by_class (Some c) e at =
          at_place (λ (s : SlotInfo). HasBufSize s.form) c.slots slot s (at_place (λ (c : ClassInfo). All (λ (s : SlotInfo). HasBufSize s.form) c.slots) schema.classes class c keeps_limits.bufs e) at

  type_size : (t : SlotType) → property_type (option_map (λ (s : SlotInfo). s.form) (slice_get (slots schema.classes class) slot)) ≡ Some t → HasBufSize (Prop t)
  type_size t is = by_slot (slice_get (slots schema.classes class) slot) refl is
    where
      by_form : (form : SlotForm) → HasBufSize form → property_type (Some form) ≡ Some t → HasBufSize (Prop t)
      by_form (Prop u) size e = let same : u ≡ t = cc in subst (λ (u : SlotType). HasBufSize (Prop u)) same size
      by_form (Action a) size e = absurd (let never = ap is_some e in cc)

      by_slot : (r : Option SlotInfo) → slice_get (slots schema.classes class) slot ≡ r → property_type (option_map (λ (s : SlotInfo). s.form) r) ≡ Some t → HasBufSize (Prop t)
      by_slot None e at = absurd (let never = ap is_some at in cc)
      by_slot (Some s) e at = by_form s.form (slot_size s e) at

-- ---- the cell behind a property

pub typed_slot : (o : Option SlotType) → IsTrue (option_map_or (λ _. true) o false) → (t : SlotType) × (o ≡ Some t)
typed_slot None h = no h
typed_slot (Some t) h = (t, refl)

module _ (plan : Plan) (class : ℕ) (values : List Value) (slot : ℕ) (t : SlotType) (tables : HasTables (meaning_of plan.program))
    (object : IsObject (meaning_of plan.program) (object_of plan class values)) (is : slot_type (meaning_of plan.program) class slot ≡ Some t) where
  there_is : (v : Value) × (value_at (contents_of plan class values) (slot_path (meaning_of plan.program) class slot) ≡ Some v)
  there_is = value (meaning_of plan.program) (object_of plan class values) slot t tables object.fits is

  -- there is one
  pub has_cell : IsCell plan class slot None → ⊥
  has_cell cell = let never = ap is_some (sym there_is.1 ∙ cell.read values) in cc

  module _ (n : ℕ) (cell : IsCell plan class slot (Some n)) where
    value_is : slot_value (meaning_of plan.program) (object_of plan class values) slot ≡ get_or values n kept.Nothing
    value_is = ap (λ s. option_map_or (λ v. v) s kept.Nothing) (cell.read values)

    cell_is_of_type : IsTrue (is_of_type t (get_or values n kept.Nothing))
    cell_is_of_type =
        subst (λ v. IsTrue (is_of_type t v)) value_is
        (property_is_of_type (meaning_of plan.program) (object_of plan class values) slot t tables object.fits is)

    within : n < length values
    within = elim (cases_lt n (length values)) [
      | inl lt ↦ lt
      | inr le ↦ absurd (no_value t (subst (λ v. IsTrue (is_of_type t v)) (get_or-eq_default values kept.Nothing le) cell_is_of_type))
    ]

    pub is_not_long : IsLong (get_or values n kept.Nothing) → ⊥
    is_not_long = not_long t (get_or values n kept.Nothing) (type_size plan.program.schema tables.limits class slot t is) cell_is_of_type

    pub takes_bytes : (v : Value) → IsTrue (is_of_type t v) → IsTrue (are_bytes v) → IsTrue (option_map_or are_bytes (slice_get values n) false)
    takes_bytes v of_type bytes =
        subst (λ (o : Option Value). IsTrue (option_map_or are_bytes o false)) (sym (slice_get-get_or values n kept.Nothing within))
        (both_bytes t v (get_or values n kept.Nothing) of_type cell_is_of_type bytes)

    pub stored_is : (v : Value) → object_of plan class (slice_set values n (stored t v)) ≡ with_slot (meaning_of plan.program) (object_of plan class values) slot v
    stored_is v =
        ap (λ (contents : Contents). record { class = class; contents = contents }) (cell.written values (stored t v) within)
        ∙ ap (λ (o : Option SlotType). record { class = class; contents = with_value (contents_of plan class values) (slot_path (meaning_of plan.program) class slot) (option_map_or (λ u. stored u v) o v) }) (sym is)
