-- What a whole code says of its slots.
use Rattle.std.proofs.Common.{ℕ, ◌≡◌, [], refl, ap, subst, arith}
use Rattle.std.specs.Prelude.{Option, Some, None, All, Bool, true, false, IfSome, IsTrue, is_some, slice_get, ◌&&◌, if◌then◌else◌}
use Rattle.std.specs.Option.{option_and_then, option_map, option_map_or}
use Rattle.std.proofs.lemmas.Bool.Decides.{nat_tests}
use Rattle.sed_value.specs.declared.slot_type.SlotType.{SlotType}
use Rattle.sed_value.specs.declared.slot_type.SlotType.TheVariants.{Prim as PrimSlot, Buf as BufSlot}
use Rattle.sed_typed.specs.declared.schema.ClassInfo.{ClassInfo}
use Rattle.sed_typed.specs.declared.schema.Schema.{Schema}
use Rattle.sed_typed.specs.declared.schema.SlotForm.{SlotForm}
use Rattle.sed_typed.specs.declared.schema.SlotForm.TheVariants.{Prop, Action}
use Rattle.sed_typed.specs.declared.schema.SlotInfo.{SlotInfo}
use Rattle.sed_typed.specs.Classes.{slots}
use Rattle.sed_engine.specs.Code.{property_type}
use Rattle.node_table.specs.Properties.{is_property_form}
use Rattle.node_table.specs.Read.{CanBeHeld, config_type_of}
use Rattle.sed_engine.specs.Whole.{HasBufSize, KeepsLimits}
use Rattle.sed_wire.specs.Spelling.{can_be_held}
pub use Rattle.sed_value.proofs.Lists.{at_place}

held_by : (t : SlotType) → HasBufSize (Prop t) → IsTrue (can_be_held t)
held_by (PrimSlot p) size = refl
held_by (BufSlot n) size = let few = size.1 in grind (arith, nat_tests)

module _ (schema : Schema) (keeps : KeepsLimits schema) (class : ℕ) where
  -- the size of a slot's Buf
  pub slot_size : (slot : ℕ) (s : SlotInfo) → slice_get (slots schema.classes class) slot ≡ Some s → HasBufSize s.form
  slot_size slot s is = by_class (slice_get schema.classes class) refl is
    where
      by_class : (r : Option ClassInfo) → slice_get schema.classes class ≡ r → slice_get (option_map_or (λ (c : ClassInfo). c.slots) r []) slot ≡ Some s → HasBufSize s.form
      by_class None e at = absurd (let never = ap is_some at in cc)
      by_class (Some c) e at =
          at_place (λ (s : SlotInfo). HasBufSize s.form) c.slots slot s (at_place (λ (c : ClassInfo). All (λ (s : SlotInfo). HasBufSize s.form) c.slots) schema.classes class c keeps.bufs e) at

  -- a reader holds a value of each property
  pub held_there : (slot : ℕ) (t : SlotType) → option_map (λ (s : SlotInfo). s.form) (slice_get (slots schema.classes class) slot) ≡ Some (Prop t) → IsTrue (can_be_held t)
  held_there slot t is = by_slot (slice_get (slots schema.classes class) slot) refl is
    where
      by_slot : (r : Option SlotInfo) → slice_get (slots schema.classes class) slot ≡ r → option_map (λ (s : SlotInfo). s.form) r ≡ Some (Prop t) → IsTrue (can_be_held t)
      by_slot None e at = absurd (let never = ap is_some at in cc)
      by_slot (Some s) e at =
          let same : s.form ≡ Prop t = cc in
          held_by t (subst HasBufSize same (slot_size slot s e))

-- a reader holds a value of each config property
pub can_hold : (schema : Schema) → KeepsLimits schema → (class : ℕ) → CanBeHeld (slots schema.classes class)
can_hold schema keeps class n = by_slot (slice_get (slots schema.classes class) n) refl
  where
    by_form : (config : Bool) (form : SlotForm) → HasBufSize form → IfSome (if is_property_form form && config then property_type (Some form) else None) (λ t. IsTrue (can_be_held t))
    by_form true (Prop t) size = held_by t size
    by_form false (Prop t) size = tt
    by_form config (Action a) size = tt

    by_slot : (r : Option SlotInfo) → slice_get (slots schema.classes class) n ≡ r → IfSome (option_and_then config_type_of r) (λ t. IsTrue (can_be_held t))
    by_slot None e = tt
    by_slot (Some s) e = by_form s.config s.form (slot_size schema keeps class n s e)
