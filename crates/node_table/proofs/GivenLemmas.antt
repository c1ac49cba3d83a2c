-- Values that are given as values for the config properties of a class, one slot after another.
use Rattle.std.proofs.Common.{◌≡◌, ℕ, ◌+◌, ◌≤◌, List, [], ◌∷◌, length, drop, refl, sym, ◌∙◌, ap, subst, arith}
use Rattle.std.specs.FinMap as map
use Rattle.std.proofs.Math.ListN.{drop_of_length-le}
use Rattle.std.specs.Prelude.{Option, Some, None, IfSome, IsSomeAnd, slice_get}
use Rattle.std.specs.Option.{option_map_or}
use Rattle.std.specs.List.{zip}
use Rattle.sed_typed.specs.declared.schema.ClassInfo.{ClassInfo}
use Rattle.sed_typed.specs.declared.schema.Schema.{Schema}
use Rattle.sed_typed.specs.declared.schema.SlotInfo.{SlotInfo}
use Rattle.sed_typed.specs.Classes.{slots}
use Rattle.sed_value.specs.declared.slot_type.SlotType.{SlotType}
use Rattle.sed_value.specs.declared.value.Value.{Value}
use Rattle.sed_engine.specs.Code.{Meaning, Object, Places, with_slot}
use Rattle.sed_engine.specs.Whole.{KeepsLimits}
use Rattle.node_table.specs.Properties.{config_slots, with_slots}
use Rattle.node_table.specs.Read.{StoresNext, config_type_of, filled_from, numbers_in, types_in}
use Rattle.node_table.specs.Values.{AreOfTypes}
use Rattle.node_table.proofs.ConfigLemmas.{IsNext, config_first, config_not}
use Rattle.node_table.proofs.MapLemmas.{get_put, put_same, put_twice}
use Rattle.node_table.proofs.SchemaLemmas.{at_place}

-- ---- the values that are left are of the types that are left

module _ (n : ℕ) (slots : List SlotInfo) (next : IsNext slots n) (values : List Value) (typed : AreOfTypes (types_in (drop n slots)) values) where
  pub typed_not : config_type_of next.slot ≡ None → AreOfTypes (types_in (drop (n + 1) slots)) values
  typed_not none =
      subst (λ (ts : List SlotType). AreOfTypes ts values) (ap types_in next.first ∙ (config_not next.slot (drop (n + 1) slots) n none).1) typed

  pub typed_next : (t : SlotType) → config_type_of next.slot ≡ Some t → AreOfTypes (t ∷ types_in (drop (n + 1) slots)) values
  typed_next t some =
      subst (λ (ts : List SlotType). AreOfTypes ts values) (ap types_in next.first ∙ (config_first next.slot (drop (n + 1) slots) n t some).1) typed

pub typed_some : (t : SlotType) (types : List SlotType) (values : List Value) → AreOfTypes (t ∷ types) values → length values ≡ 0 → ⊥
typed_some t types [] typed none = typed
typed_some t types (v ∷ values) typed none = omega arith

pub typed_first : (t : SlotType) (types : List SlotType) (values rest : List Value) (v : Value) → AreOfTypes (t ∷ types) values → values ≡ v ∷ rest → AreOfTypes (t ∷ types) (v ∷ rest)
typed_first t types values rest v typed is = subst (AreOfTypes (t ∷ types)) is typed

-- ---- a slot's number is a byte

pub few_slots : (schema : Schema) → KeepsLimits schema → (class : ℕ) → length (slots schema.classes class) ≤ 64
few_slots schema keeps class = by_class (slice_get schema.classes class) refl
  where
    by_class : (r : Option ClassInfo) → slice_get schema.classes class ≡ r → length (option_map_or (λ (c : ClassInfo). c.slots) r []) ≤ 64
    by_class None e = omega arith
    by_class (Some c) e = at_place (λ (c : ClassInfo). length c.slots ≤ 64) schema.classes class c keeps.slots e

-- ---- what is stored

module _ (m : Meaning) (live : Places) (place : ℕ) (o : Object) (at : map.get live place ≡ Some o) (n : ℕ) (slots : List SlotInfo) (next : IsNext slots n) where
  -- what is no config property gets no value
  pub fills_none : (values : List Value) → config_type_of next.slot ≡ None → StoresNext m live live place o n slots values values
  fills_none values none = record {
    object = o;
    live = sym (put_same live place o at);
    class = refl;
    rest = sym (ap (λ (ss : List SlotInfo). filled_from m n ss values o) next.first
        ∙ ap (λ (ns : List ℕ). with_slots m (zip ns values) o) (config_not next.slot (drop (n + 1) slots) n none).0);
  }

  pub fills_next : (t : SlotType) → config_type_of next.slot ≡ Some t → (v : Value) (values rest : List Value) (left : Places) → values ≡ v ∷ rest
      → left ≡ map.insert live place (with_slot m o n v) → StoresNext m live left place o n slots values rest
  fills_next t some v values rest left are is = record {
    object = with_slot m o n v;
    live = is;
    class = refl;
    rest = sym (ap (λ (ss : List SlotInfo). filled_from m n ss values o) next.first
        ∙ ap (λ (ns : List ℕ). with_slots m (zip ns values) o) (config_first next.slot (drop (n + 1) slots) n t some).0
        ∙ ap (λ (vs : List Value). with_slots m (zip (n ∷ numbers_in (n + 1) (drop (n + 1) slots)) vs) o) are);
  }

-- ---- what is stored so far

pub record FilledSoFar (m : Meaning) (before after : Places) (place : ℕ) (o : Object) (n : ℕ) (slots : List SlotInfo) (values left : List Value) : Type 0 where
  pub object : Object
  pub live : after ≡ map.insert before place object
  pub class : object.class ≡ o.class
  pub rest : filled_from m n (drop n slots) left object ≡ filled_from m 0 slots values o

module _ (m : Meaning) (before : Places) (place : ℕ) (slots : List SlotInfo) (values : List Value) where
  pub filled_none : IfSome (map.get before place) (λ o. FilledSoFar m before before place o 0 slots values values)
  filled_none = by_object (map.get before place) refl
    where
      by_object : (r : Option Object) → map.get before place ≡ r → IfSome r (λ o. FilledSoFar m before before place o 0 slots values values)
      by_object None e = tt
      by_object (Some o) e = record { object = o; live = sym (put_same before place o e); class = refl; rest = refl }

  pub filled_more : (after next : Places) (n : ℕ) (left right : List Value) → IfSome (map.get before place) (λ o. FilledSoFar m before after place o n slots values left)
      → IfSome (map.get after place) (λ o. StoresNext m after next place o n slots left right) → IfSome (map.get before place) (λ o. FilledSoFar m before next place o (n + 1) slots values right)
  filled_more after next n left right so_far more = by_object (map.get before place) so_far
    where
      by_object : (r : Option Object) → IfSome r (λ o. FilledSoFar m before after place o n slots values left) → IfSome r (λ o. FilledSoFar m before next place o (n + 1) slots values right)
      by_object None s = tt
      by_object (Some o) s =
          let here : map.get after place ≡ Some s.object = ap (λ (l : Places). map.get l place) s.live ∙ get_put before place s.object in
          let step : StoresNext m after next place s.object n slots left right = subst (λ (r : Option Object). IfSome r (λ o. StoresNext m after next place o n slots left right)) here more in
          record {
            object = step.object;
            live = step.live ∙ ap (λ (l : Places). map.insert l place step.object) s.live ∙ put_twice before place s.object step.object;
            class = step.class ∙ s.class;
            rest = step.rest ∙ s.rest;
          }

  -- the class stays, so that the next slot may be stored
  pub filled_class : (after : Places) (n : ℕ) (left : List Value) (class : ℕ) → IfSome (map.get before place) (λ o. FilledSoFar m before after place o n slots values left)
      → IsSomeAnd (map.get before place) (λ o. o.class ≡ class) → IsSomeAnd (map.get after place) (λ o. o.class ≡ class)
  filled_class after n left class so_far first = by_object (map.get before place) so_far first
    where
      by_object : (r : Option Object) → IfSome r (λ o. FilledSoFar m before after place o n slots values left) → IsSomeAnd r (λ o. o.class ≡ class) → IsSomeAnd (map.get after place) (λ o. o.class ≡ class)
      by_object None s never = absurd never
      by_object (Some o) s is =
          subst (λ (r : Option Object). IsSomeAnd r (λ o. o.class ≡ class)) (sym (ap (λ (l : Places). map.get l place) s.live ∙ get_put before place s.object)) (s.class ∙ is)

pub filled_all : (m : Meaning) (before after : Places) (place class : ℕ) (values left : List Value) (n : ℕ) → length (slots m.schema.classes class) ≤ n
    → IfSome (map.get before place) (λ o. FilledSoFar m before after place o n (slots m.schema.classes class) values left)
    → IfSome (map.get before place) (λ o. after ≡ map.insert before place (with_slots m (zip (config_slots m class) values) o))
filled_all m before after place class values left n le so_far = by_object (map.get before place) so_far
  where
    by_object : (r : Option Object) → IfSome r (λ o. FilledSoFar m before after place o n (slots m.schema.classes class) values left)
        → IfSome r (λ o. after ≡ map.insert before place (with_slots m (zip (config_slots m class) values) o))
    by_object None s = tt
    by_object (Some o) s =
        let end : s.object ≡ filled_from m 0 (slots m.schema.classes class) values o =
        sym (ap (λ (ss : List SlotInfo). filled_from m n ss left s.object) (drop_of_length-le (slots m.schema.classes class) le)) ∙ s.rest in
        s.live ∙ ap (map.insert before place) end
