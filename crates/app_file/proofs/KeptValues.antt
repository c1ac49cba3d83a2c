-- An object whose slots are given, one after another, the values that another has there has these values.
use Rattle.std.proofs.Common.{◌≡◌, ℕ, Bool, true, false, List, [], ◌∷◌, refl, subst, ◌∙◌, ap}
use Rattle.std.specs.Prelude.{Option, Some, None, is_some, map as map_list}
use Rattle.std.specs.Option.{option_map, option_map_or}
use Rattle.std.specs.List.{AllByRecursion}
use Rattle.std.specs.Str.{bytes_eq}
use Rattle.std.proofs.lemmas.Slice.Eq.{bytes_eq-Decides}
use Rattle.sed_value.specs.declared.value.Value.{Value}
use Rattle.sed_value.specs.declared.value.Value.TheVariants.{Nothing}
use Rattle.sed_typed.specs.Contents.{Contents, Path, value_at, with_value}
use Rattle.sed_engine.specs.Code.{Meaning, Object, slot_keeps, slot_path, slot_value}
use Rattle.node_table.proofs.StoredLemmas.{beside_written, never, there_written}
pub use Rattle.node_table.proofs.StoredLemmas.{stored_stays}
use Rattle.comp_tree.specs.Parts.{with_slots}

-- ---- the values of another object, stored

module _ (m : Meaning) (o : Object) where
  -- a slot keeps what the other object has there, and has a place for it
  pub record IsStored (slot : ℕ) : Type 0 where
    pub stays : slot_keeps m o.class slot (slot_value m o slot) ≡ slot_value m o slot

  abbrev of_other : Path → Value
  of_other p = option_map_or (λ v. v) (value_at o.contents p) Nothing

  -- the value at a path is the other's
  abbrev Has : Contents → Path → Type 0
  Has es p = value_at es p ≡ Some (of_other p)

  abbrev after : Contents → ℕ → Contents
  after es slot = with_value es (slot_path m o.class slot) (slot_keeps m o.class slot (slot_value m o slot))

  some_kept : (r : Option Value) (v : Value) → is_some r ≡ true → option_map (λ _. v) r ≡ Some v
  some_kept None v is = never is
  some_kept (Some w) v is = refl

  still_some : (r : Option Value) (v : Value) → is_some (option_map (λ _. v) r) ≡ is_some r
  still_some None v = refl
  still_some (Some w) v = refl

  -- at the slot itself
  has_slot : (es : Contents) (slot : ℕ) → IsStored slot → is_some (value_at es (slot_path m o.class slot)) ≡ true → Has (after es slot) (slot_path m o.class slot)
  has_slot es slot is there =
      there_written (slot_path m o.class slot) (slot_keeps m o.class slot (slot_value m o slot)) es
      ∙ some_kept (value_at es (slot_path m o.class slot)) (slot_keeps m o.class slot (slot_value m o slot)) there
      ∙ ap Some is.stays

  -- at any path
  stays_there : (es : Contents) (slot : ℕ) (p : Path) → is_some (value_at (after es slot) p) ≡ is_some (value_at es p)
  stays_there es slot p = by_test (bytes_eq (slot_path m o.class slot) p) refl
    where
      by_test : (b : Bool) → bytes_eq (slot_path m o.class slot) p ≡ b → is_some (value_at (after es slot) p) ≡ is_some (value_at es p)
      by_test false is = ap is_some (beside_written (slot_path m o.class slot) (slot_keeps m o.class slot (slot_value m o slot)) p is es)
      by_test true is =
          let same : slot_path m o.class slot ≡ p = (bytes_eq-Decides (slot_path m o.class slot) p).0 is in
          subst (λ p. is_some (value_at (after es slot) p) ≡ is_some (value_at es p)) same
          (ap is_some (there_written (slot_path m o.class slot) (slot_keeps m o.class slot (slot_value m o slot)) es)
          ∙ still_some (value_at es (slot_path m o.class slot)) (slot_keeps m o.class slot (slot_value m o slot)))

  stays_had : (es : Contents) (slot : ℕ) (p : Path) → IsStored slot → Has es p → Has (after es slot) p
  stays_had es slot p is had = by_test (bytes_eq (slot_path m o.class slot) p) refl
    where
      by_test : (b : Bool) → bytes_eq (slot_path m o.class slot) p ≡ b → Has (after es slot) p
      by_test false other = beside_written (slot_path m o.class slot) (slot_keeps m o.class slot (slot_value m o slot)) p other es ∙ had
      by_test true tied =
          let same : slot_path m o.class slot ≡ p = (bytes_eq-Decides (slot_path m o.class slot) p).0 tied in
          subst (λ p. Has (after es slot) p) same
          (has_slot es slot is (ap (λ p. is_some (value_at es p)) same ∙ ap is_some had))

  -- all slots of a list, from an object of the class
  abbrev stored_in : List ℕ → Contents → Contents
  stored_in slots es = (with_slots m (map_list (λ slot. (slot, slot_value m o slot)) slots) (record { class = o.class; contents = es })).contents

  pub class_stays : (slots : List ℕ) (es : Contents) → (with_slots m (map_list (λ slot. (slot, slot_value m o slot)) slots) (record { class = o.class; contents = es })).class ≡ o.class
  class_stays [] es = refl
  class_stays (slot ∷ slots) es = class_stays slots (after es slot)

  had_stays : (slots : List ℕ) (es : Contents) (p : Path) → AllByRecursion IsStored slots → Has es p → Has (stored_in slots es) p
  had_stays [] es p all had = had
  had_stays (slot ∷ slots) es p all had = had_stays slots (after es slot) p all.1 (stays_had es slot p all.0 had)

  still_there : (es : Contents) (slot : ℕ) (slots : List ℕ) → AllByRecursion (λ s. is_some (value_at es (slot_path m o.class s)) ≡ true) slots
      → AllByRecursion (λ s. is_some (value_at (after es slot) (slot_path m o.class s)) ≡ true) slots
  still_there es slot [] there = tt
  still_there es slot (s ∷ slots) there = (stays_there es slot (slot_path m o.class s) ∙ there.0, still_there es slot slots there.1)

  -- each slot gives what the other's does
  pub all_given : (slots : List ℕ) (es : Contents) → AllByRecursion IsStored slots
      → AllByRecursion (λ slot. is_some (value_at es (slot_path m o.class slot)) ≡ true) slots
      → AllByRecursion (λ slot. Has (stored_in slots es) (slot_path m o.class slot)) slots
  all_given [] es all there = tt
  all_given (slot ∷ slots) es all there = (
    had_stays slots (after es slot) (slot_path m o.class slot) all.1 (has_slot es slot all.0 there.0),
    all_given slots (after es slot) all.1 (still_there es slot slots there.1),
  )

  -- so the slots give the same values
  pub same_values : (slots : List ℕ) (kept : Object) → kept.class ≡ o.class
      → AllByRecursion (λ slot. Has kept.contents (slot_path m o.class slot)) slots → map_list (slot_value m kept) slots ≡ map_list (slot_value m o) slots
  same_values [] kept class all = refl
  same_values (slot ∷ slots) kept class all =
      let here : slot_value m kept slot ≡ slot_value m o slot =
      ap (λ k. option_map_or (λ v. v) (value_at kept.contents (slot_path m k slot)) Nothing) class ∙ ap (λ r. option_map_or (λ v. v) r Nothing) all.0 in
      let rest = same_values slots kept class all.1 in
      λ i. here i ∷ rest i
