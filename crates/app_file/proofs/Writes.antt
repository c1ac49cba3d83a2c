-- What a write leaves of a whole application.
use Rattle.std.proofs.Common.{ℕ, ℤ, ◌≡◌, Bool, true, false, refl, sym, ◌∙◌, ap, subst}
use Rattle.std.specs.Prelude.{Option, Some, None, IsTrue, IsSomeAnd, is_none, List, [], ◌∷◌, if◌then◌else◌}
use Rattle.std.specs.Option.{option_and_then, option_map_or, option_to_list}
use Rattle.std.specs.FinMap as map
use Rattle.sed_value.specs.Value.{are_bytes, goes_to, is_of_type}
use Rattle.sed_value.specs.declared.slot_type.SlotType.{SlotType}
use Rattle.sed_value.specs.declared.value.Value.{Value}
use Rattle.sed_engine.specs.declared.call.Callback.TheVariants.{Changed}
use Rattle.sed_engine.specs.declared.call.Root.TheVariants.{Callback}
use Rattle.sed_engine.specs.Code.{Meaning, Object, may_store, property_type, slot_form, with_slot}
use Rattle.sed_engine.specs.Whole.{IsObject, IsWhole}
use Rattle.comp_tree.specs.Application.{Application, Component, type_at}
use Rattle.comp_tree.specs.Calls.{Call, callback_argument}
use Rattle.comp_tree.specs.Edit.{over}
use Rattle.comp_tree.specs.Edits.{after_write, first_of}
use Rattle.comp_tree.specs.Links.{has_changed, store}
use Rattle.comp_tree.specs.Refusals.{first_refusal, refusals_of_write, write_types}
use Rattle.comp_tree.specs.Values.{are_bad_values, have_long_buffer, taken}
use Rattle.comp_tree.specs.Whole.{Whole}
use Rattle.app_file.proofs.Refused.{AllFalse, all_false}
use Rattle.app_file.proofs.RootCalls.{whole_run, whole_store}
use Rattle.app_file.proofs.TakenValues.{EachOf, goes_home, taken_are}

first_is : (t : SlotType) (values : List Value) → EachOf (t ∷ []) values → IsTrue (is_of_type t (first_of values))
first_is t [] never = absurd never
first_is t (v ∷ values) are = are.0

module _ (m : Meaning) (code : IsWhole m) (stored : (o : Object) (slot : ℕ) (v : Value) → IsObject m o → IsTrue (may_store m o.class slot v) → IsObject m (with_slot m o slot v))
    (a : Application) (whole : Whole m a) (id slot : ℕ) (value : List ℕ) (turns : ℕ) (moment : ℤ) (bytes : IsTrue (are_bytes value))
    (none : first_refusal (refusals_of_write m a.components.by_id id slot value) ≡ None) where
  table : AllFalse (refusals_of_write m a.components.by_id id slot value)
  table = all_false (refusals_of_write m a.components.by_id id slot value) none

  abbrev v : Value
  v = first_of (taken (write_types m a.components.by_id id slot) value)

  of_component : (t : SlotType) (o : Option Component) → property_type (option_and_then (λ (c : Component). slot_form m c.class slot) o) ≡ Some t → IsTrue (goes_to t v) → IsSomeAnd o (λ (c : Component). IsTrue (may_store m c.class slot v))
  of_component t None at go = absurd (let no : ◌≡◌ {A = Option SlotType} None (Some t) = at in cc)
  of_component t (Some c) at go = ap (λ r. option_map_or (λ t. goes_to t v) r false) at ∙ go

  of_type : (r : Option SlotType) → type_at m a.components.by_id id slot ≡ r → is_none r ≡ false → are_bad_values (option_to_list r) value ≡ false → have_long_buffer (option_to_list r) value ≡ false
      → IsSomeAnd (map.get a.components.by_id id) (λ (c : Component). IsTrue (may_store m c.class slot v))
  of_type None at there good short = absurd (let no : true ≡ false = there in cc)
  of_type (Some t) at there good short =
      of_component t (map.get a.components.by_id id) at
      (subst (λ (types : List SlotType). IsTrue (goes_to t (first_of (taken types value)))) (sym (ap option_to_list at))
      (goes_home t (first_of (taken (t ∷ []) value)) (first_is t (taken (t ∷ []) value) (taken_are (t ∷ []) value bytes good short))))

  may : IsSomeAnd (map.get a.components.by_id id) (λ (c : Component). IsTrue (may_store m c.class slot v))
  may = of_type (type_at m a.components.by_id id slot) refl table.1.1.0 table.1.1.1.0 table.1.1.1.1.0

  kept : Whole m (over a (store m a.components id slot v))
  kept = whole_store m code a whole stored id slot v may

  called : (b : Bool) → Whole m (over a (if b then (Call m (store m a.components id slot v) id Changed slot turns moment).left else store m a.components id slot v))
  called true = whole_run m code (over a (store m a.components id slot v)) kept id (Callback Changed) (callback_argument Changed slot) turns moment
  called false = kept

  pub whole_write : Whole m (over a (after_write m a.components id slot value turns moment))
  whole_write = called (has_changed m a.components (store m a.components id slot v) id slot)
