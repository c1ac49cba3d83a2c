-- What a config slot of a component holds is of the slot's type.
use Rattle.std.proofs.Common.{◌≡◌, ℕ, suc, ◌+◌, Bool, true, false, IsTrue, List, [], ◌∷◌, refl, sym, subst, ◌∙◌, ap, arith}
use Rattle.std.specs.Prelude.{Option, Some, None, All, ◌&&◌, is_some, if◌then◌else◌, map as map_list, filter, slice_get}
use Rattle.std.specs.Option.{option_map, option_map_or}
use Rattle.std.specs.List.{AllByRecursion, enumerate_from}
use Rattle.std.proofs.lemmas.Bool.Decides.{nat_tests}
use Rattle.sed_value.specs.declared.slot_type.SlotType.{SlotType}
use Rattle.sed_value.specs.declared.slot_type.SlotType.TheVariants.{Prim as PrimSlot, Buf as BufSlot}
use Rattle.sed_typed.specs.declared.schema.ClassInfo.{ClassInfo}
use Rattle.sed_typed.specs.declared.schema.SlotForm.{SlotForm}
use Rattle.sed_typed.specs.declared.schema.SlotForm.TheVariants.{Prop, Action}
use Rattle.sed_typed.specs.declared.schema.SlotInfo.{SlotInfo}
use Rattle.sed_typed.specs.Classes.{slots}
use Rattle.sed_wire.specs.Spelling.{can_be_held}
use Rattle.sed_engine.specs.Code.{Meaning, property_type, slot_type}
use Rattle.sed_engine.specs.Fits.{Fits}
use Rattle.sed_engine.specs.Whole.{HasBufSize, HasTables}
use Rattle.comp_tree.specs.Application.{Component, object_of}
use Rattle.comp_tree.specs.Parts.{config_slots, is_config, is_property_form, values_in}
use Rattle.sed_engine.proofs.KeptSlots.{property_is_of_type}
use Rattle.app_file.proofs.ValuesOneWay.{AreTyped}
use Rattle.sed_value.proofs.Lists.{at_place}

-- ---- config slots are properties

held_by : (t : SlotType) → HasBufSize (Prop t) → IsTrue (can_be_held t)
held_by (PrimSlot p) size = refl
held_by (BufSlot n) size = let few = size.1 in grind (arith, nat_tests)

-- the type of a config slot, and that its values can be held
record IsProperty (m : Meaning) (class slot : ℕ) : Type 0 where
  type : SlotType
  is : slot_type m class slot ≡ Some type
  held : IsTrue (can_be_held type)

by_info : (m : Meaning) (class slot : ℕ) → HasTables m → (s : SlotInfo) → slice_get (slots m.schema.classes class) slot ≡ Some s → IsTrue (is_config s) → IsProperty m class slot
by_info m class slot tables s at is = by_form s.form s.config refl is (by_class (slice_get m.schema.classes class) refl at)
  where
    by_class : (r : Option ClassInfo) → slice_get m.schema.classes class ≡ r → slice_get (option_map_or (λ (c : ClassInfo). c.slots) r []) slot ≡ Some s → HasBufSize s.form
    by_class None e at = absurd (let never = ap is_some at in cc)
    by_class (Some c) e at =
        at_place (λ (s : SlotInfo). HasBufSize s.form) c.slots slot s (at_place (λ (c : ClassInfo). All (λ (s : SlotInfo). HasBufSize s.form) c.slots) m.schema.classes class c tables.limits.bufs e) at

    by_form : (form : SlotForm) (config : Bool) → s.form ≡ form → IsTrue (is_property_form form && config) → HasBufSize s.form → IsProperty m class slot
    by_form (Prop t) config same is size = record {
      type = t;
      is = ap (λ r. property_type (option_map (λ (s : SlotInfo). s.form) r)) at ∙ ap (λ f. property_type (Some f)) same;
      held = held_by t (subst HasBufSize same size);
    }
    by_form (Action a) config same is size = absurd (let no : false ≡ true = is in cc)

-- the slots of a list that are config properties, where the list goes on from a place in the slots of the class
are_properties : (m : Meaning) (class k : ℕ) (rest : List SlotInfo) → HasTables m → ((j : ℕ) → slice_get rest j ≡ slice_get (slots m.schema.classes class) (k + j))
    → AllByRecursion (IsProperty m class) (map_list (λ (e : ℕ × SlotInfo). e.0) (filter (λ (e : ℕ × SlotInfo). is_config e.1) (enumerate_from k rest)))
are_properties m class k [] tables suffix = tt
are_properties m class k (s ∷ rest) tables suffix = by_test (is_config s) refl (are_properties m class (k + 1) rest tables (λ j. suffix (suc j) ∙ ap (slice_get (slots m.schema.classes class)) (let e : k + suc j ≡ (k + 1) + j = omega arith in e)))
  where
    here : slice_get (slots m.schema.classes class) k ≡ Some s
    here = ap (slice_get (slots m.schema.classes class)) (let e : k ≡ k + 0 = omega arith in e) ∙ sym (suffix 0)

    by_test : (b : Bool) → is_config s ≡ b → AllByRecursion (IsProperty m class) (map_list (λ (e : ℕ × SlotInfo). e.0) (filter (λ (e : ℕ × SlotInfo). is_config e.1) (enumerate_from (k + 1) rest)))
        → AllByRecursion (IsProperty m class) (map_list (λ (e : ℕ × SlotInfo). e.0) (if b then (k, s) ∷ filter (λ (e : ℕ × SlotInfo). is_config e.1) (enumerate_from (k + 1) rest) else filter (λ (e : ℕ × SlotInfo). is_config e.1) (enumerate_from (k + 1) rest)))
    by_test true is later = (by_info m class k tables s here is, later)
    by_test false is later = later

-- ---- the config values of a component

typed_each : (m : Meaning) (c : Component) (numbers : List ℕ) → HasTables m → Fits m.fields (m.fields c.class) (m.initial c.class) c.contents
    → AllByRecursion (IsProperty m c.class) numbers → AreTyped m c.class numbers (values_in m c numbers)
typed_each m c [] tables fits all = tt
typed_each m c (slot ∷ numbers) tables fits all =
    (record { type = all.0.type; is = all.0.is; held = all.0.held; of = property_is_of_type m (object_of c) slot all.0.type tables fits all.0.is }, typed_each m c numbers tables fits all.1)

pub config_is_typed : (m : Meaning) (c : Component) → HasTables m → Fits m.fields (m.fields c.class) (m.initial c.class) c.contents
    → AreTyped m c.class (config_slots m c.class) (values_in m c (config_slots m c.class))
config_is_typed m c tables fits =
    typed_each m c (config_slots m c.class) tables fits (are_properties m c.class 0 (slots m.schema.classes c.class) tables (λ j. ap (slice_get (slots m.schema.classes c.class)) (let e : j ≡ 0 + j = omega arith in e)))
