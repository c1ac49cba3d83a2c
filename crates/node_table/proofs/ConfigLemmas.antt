-- The config properties of a class, one slot after another, and the values that bytes give them.
use Rattle.std.proofs.Common.{◌≡◌, ℕ, zero, suc, ◌+◌, ◌<◌, ◌≤◌, Bool, true, false, cond, IsTrue, List, [], ◌∷◌, length, take, drop, map as map_list, refl, sym, ◌∙◌, ap, subst, arith}
use Rattle.std.specs.FinMap as map
use Rattle.std.proofs.Math.ListN.{drop_of_length-le}
use Rattle.std.specs.Prelude.{Option, Some, None, is_some, IfSome, IsSomeAnd, filter, slice_get, ◌||◌, ◌&&◌}
use Rattle.std.specs.Option.{option_and_then, option_map, option_map_or}
use Rattle.std.specs.List.{cons_option, enumerate_from, filter_map, list_any, zip}
use Rattle.sed_typed.specs.declared.schema.SlotForm.{SlotForm}
use Rattle.sed_typed.specs.declared.schema.SlotForm.TheVariants.{Prop, Action}
use Rattle.sed_typed.specs.declared.schema.SlotInfo.{SlotInfo}
use Rattle.sed_typed.specs.Classes.{slots}
use Rattle.sed_value.specs.declared.refusal.Refusal.{Refusal}
use Rattle.sed_value.specs.declared.refusal.Refusal.TheVariants.{BadValue, BufferTooLong}
use Rattle.sed_value.specs.declared.slot_type.Primitive.TheVariants.{Bool as BoolType, Byte as ByteType, Short as ShortType, Int as IntType, Long as LongType}
use Rattle.sed_value.specs.declared.slot_type.SlotType.{SlotType}
use Rattle.sed_value.specs.declared.slot_type.SlotType.TheVariants.{Prim as PrimSlot, Buf as BufSlot}
use Rattle.sed_value.specs.declared.value.Value.{Value}
use Rattle.sed_wire.specs.declared.fault.ValueFault.{ValueFault}
use Rattle.sed_wire.specs.declared.fault.ValueFault.TheVariants.{Short, BadBool, TooLong}
use Rattle.sed_wire.specs.Faults.{IsBadBool, IsTooLong, StandsAfter, contents_length, size_of}
use Rattle.sed_wire.specs.Reading.{Reads}
use Rattle.sed_wire.specs.Spelling.{Spells}
use Rattle.sed_value.specs.Value.{goes_to, is_of_type}
use Rattle.sed_engine.specs.Code.{Meaning, Object, Places, may_store, property_type, slot_type, with_slot}
use Rattle.node_table.specs.Properties.{config_slots, config_types, is_config, is_property_form, with_slots}
use Rattle.node_table.specs.Rows.{first_refusal}
use Rattle.node_table.specs.Read.{StoresSlot, config_type_of, numbers_in, refusal_after, stored_from, types_in}
use Rattle.node_table.specs.Values.{are_bad_values, is_bad_truth, is_too_long, taken, value_of, values_of}
use Rattle.node_table.proofs.ReadLemmas.{above_two, found, goes_there, long_is, values_next, values_read, values_short}
use Rattle.node_table.proofs.MapLemmas.{get_put, put_same, put_twice}

-- ---- slots, one after another

-- the next slot of a list
pub record IsNext (all : List SlotInfo) (n : ℕ) : Type 0 where
  pub slot : SlotInfo
  pub there : slice_get all n ≡ Some slot
  pub first : drop n all ≡ slot ∷ drop (n + 1) all

pub next_slot : (all : List SlotInfo) (n : ℕ) → n < length all → IsNext all n
next_slot [] n lt = absurd (omega arith)
next_slot (s ∷ ss) zero lt = record { slot = s; there = refl; first = refl }
next_slot (s ∷ ss) (suc n) lt =
    let rest = next_slot ss n (omega arith) in
    record { slot = rest.slot; there = rest.there; first = rest.first ∙ (let e : suc n + 1 ≡ suc (n + 1) = omega arith in ap (λ (k : ℕ). rest.slot ∷ drop k (s ∷ ss)) (sym e)) }

config_by : (b : Bool) (form : SlotForm) (t : SlotType) → cond b (property_type (Some form)) None ≡ Some t → (b ≡ true) × (property_type (Some form) ≡ Some t)
config_by true form t e = (refl, e)
config_by false form t e = absurd (let never = e in cc)

none_by : (config : Bool) (form : SlotForm) → cond (is_property_form form && config) (property_type (Some form)) None ≡ None → (is_property_form form && config) ≡ false
none_by true (Prop t) e = absurd (let never = e in cc)
none_by false (Prop t) e = refl
none_by config (Action a) e = refl

module _ (s : SlotInfo) (ss : List SlotInfo) (n : ℕ) where
  numbers_next : (b : Bool) → is_config s ≡ b → numbers_in n (s ∷ ss) ≡ cond b (n ∷ numbers_in (n + 1) ss) (numbers_in (n + 1) ss)
  numbers_next true e = ap (λ (c : Bool). map_list (λ (e : ℕ × SlotInfo). e.0) (cond c ((n, s) ∷ filter (λ (e : ℕ × SlotInfo). is_config e.1) (enumerate_from (n + 1) ss)) (filter (λ (e : ℕ × SlotInfo). is_config e.1) (enumerate_from (n + 1) ss)))) e
  numbers_next false e = ap (λ (c : Bool). map_list (λ (e : ℕ × SlotInfo). e.0) (cond c ((n, s) ∷ filter (λ (e : ℕ × SlotInfo). is_config e.1) (enumerate_from (n + 1) ss)) (filter (λ (e : ℕ × SlotInfo). is_config e.1) (enumerate_from (n + 1) ss)))) e

  pub config_first : (t : SlotType) → config_type_of s ≡ Some t → (numbers_in n (s ∷ ss) ≡ n ∷ numbers_in (n + 1) ss) × (types_in (s ∷ ss) ≡ t ∷ types_in ss)
  config_first t e =
      (numbers_next true (config_by (is_config s) s.form t e).0, ap (λ r. cons_option r (types_in ss)) e)

  pub config_not : config_type_of s ≡ None → (numbers_in n (s ∷ ss) ≡ numbers_in (n + 1) ss) × (types_in (s ∷ ss) ≡ types_in ss)
  config_not e =
      (numbers_next false (none_by s.config s.form e), ap (λ r. cons_option r (types_in ss)) e)

-- the types of the config slots of a class are those of its slots
types_from : (m : Meaning) (class : ℕ) (n : ℕ) (ss : List SlotInfo) → ((k : ℕ) → slice_get (slots m.schema.classes class) (n + k) ≡ slice_get ss k)
    → filter_map (slot_type m class) (numbers_in n ss) ≡ types_in ss
types_from m class n [] at = refl
types_from m class n (s ∷ ss) at =
    let later : (k : ℕ) → slice_get (slots m.schema.classes class) (n + 1 + k) ≡ slice_get ss k =
    λ k. (let e : n + 1 + k ≡ n + suc k = omega arith in ap (slice_get (slots m.schema.classes class)) e) ∙ at (suc k) in
    let rest = types_from m class (n + 1) ss later in
    let here : slot_type m class n ≡ property_type (Some s.form) =
    ap (λ r. property_type (option_map (λ (x : SlotInfo). x.form) r)) ((let e : n ≡ n + 0 = omega arith in ap (slice_get (slots m.schema.classes class)) e) ∙ at 0) in
    by_slot (config_type_of s) refl here rest
  where
    by_slot : (r : Option SlotType) → config_type_of s ≡ r → slot_type m class n ≡ property_type (Some s.form) → filter_map (slot_type m class) (numbers_in (n + 1) ss) ≡ types_in ss
        → filter_map (slot_type m class) (numbers_in n (s ∷ ss)) ≡ types_in (s ∷ ss)
    by_slot None e here rest = let first = config_not s ss n e in ap (filter_map (slot_type m class)) first.0 ∙ rest ∙ sym first.1
    by_slot (Some t) e here rest =
        let first = config_first s ss n t e in
        let type : slot_type m class n ≡ Some t = here ∙ (config_by (is_config s) s.form t e).1 in
        ap (filter_map (slot_type m class)) first.0 ∙ ap (λ r. cons_option r (filter_map (slot_type m class) (numbers_in (n + 1) ss))) type ∙ ap (λ (ts : List SlotType). t ∷ ts) rest ∙ sym first.1

pub types_are_config : (m : Meaning) (class : ℕ) → config_types m class ≡ types_in (slots m.schema.classes class)
types_are_config m class =
    types_from m class 0 (slots m.schema.classes class) (λ k. let e : 0 + k ≡ k = omega arith in ap (slice_get (slots m.schema.classes class)) e)

-- ---- what is refused of values, one after another

judge_after : Bool → List SlotType → Option (List Value) → Option Refusal
judge_after long types r =
    first_refusal ((option_map_or (λ values. list_any is_bad_truth values) r true, BadValue)
    ∷ (long || list_any (λ (e : SlotType × Value). is_too_long e.0 e.1) (zip types (option_map_or (λ values. values) r [])), BufferTooLong) ∷ [])

after_is : (long : Bool) (types : List SlotType) (bytes : List ℕ) → refusal_after long types bytes ≡ judge_after long types (values_of types bytes)
unfolding judge_after
after_is long types bytes = refl

module _ (t : SlotType) (types : List SlotType) (v : Value) (long : Bool) where
  good_one : is_bad_truth v ≡ false → is_too_long t v ≡ false → (r : Option (List Value)) → judge_after long (t ∷ types) (option_map (λ values. v ∷ values) r) ≡ judge_after long types r
  unfolding judge_after
  good_one good short None = refl
  good_one good short (Some values) =
      ap (λ (b : Bool). first_refusal ((b || list_any is_bad_truth values, BadValue) ∷ (long || (is_too_long t v || list_any (λ (e : SlotType × Value). is_too_long e.0 e.1) (zip types values)), BufferTooLong) ∷ [])) good
      ∙ ap (λ (b : Bool). first_refusal ((list_any is_bad_truth values, BadValue) ∷ (long || (b || list_any (λ (e : SlotType × Value). is_too_long e.0 e.1) (zip types values)), BufferTooLong) ∷ [])) short

  or_true : (a b : Bool) → (a || (true || b)) ≡ true
  or_true true b = refl
  or_true false b = refl

  long_one : is_bad_truth v ≡ false → is_too_long t v ≡ true → (r : Option (List Value)) → judge_after long (t ∷ types) (option_map (λ values. v ∷ values) r) ≡ judge_after true types r
  unfolding judge_after
  long_one good is_long None = refl
  long_one good is_long (Some values) =
      ap (λ (b : Bool). first_refusal ((b || list_any is_bad_truth values, BadValue) ∷ (long || (is_too_long t v || list_any (λ (e : SlotType × Value). is_too_long e.0 e.1) (zip types values)), BufferTooLong) ∷ [])) good
      ∙ ap (λ (b : Bool). first_refusal ((list_any is_bad_truth values, BadValue) ∷ (long || (b || list_any (λ (e : SlotType × Value). is_too_long e.0 e.1) (zip types values)), BufferTooLong) ∷ [])) is_long
      ∙ ap (λ (b : Bool). first_refusal ((list_any is_bad_truth values, BadValue) ∷ (b, BufferTooLong) ∷ [])) (or_true long (list_any (λ (e : SlotType × Value). is_too_long e.0 e.1) (zip types values)))

bad_one : (t : SlotType) (types : List SlotType) (v : Value) (long : Bool) → is_bad_truth v ≡ true → (r : Option (List Value)) → judge_after long (t ∷ types) (option_map (λ values. v ∷ values) r) ≡ Some BadValue
unfolding judge_after
bad_one t types v long bad None = refl
bad_one t types v long bad (Some values) =
    ap (λ (b : Bool). first_refusal ((b || list_any is_bad_truth values, BadValue) ∷ (long || list_any (λ (e : SlotType × Value). is_too_long e.0 e.1) (zip (t ∷ types) (v ∷ values)), BufferTooLong) ∷ [])) bad

module _ (t : SlotType) (types : List SlotType) (long : Bool) (old new : List ℕ) where
  pub after_read : (v : Value) → Reads (Spells t) v old new → refusal_after long (t ∷ types) old ≡ refusal_after long types new
  after_read v r =
      let is = found t v r.spelling r.spelled in
      after_is long (t ∷ types) old ∙ ap (judge_after long (t ∷ types)) (values_read t types v old new r) ∙ good_one t types v long is.good is.short (values_of types new)
      ∙ sym (after_is long types new)

  pub after_short : length old < size_of t old → refusal_after long (t ∷ types) old ≡ Some BadValue
  unfolding judge_after
  after_short few = after_is long (t ∷ types) old ∙ ap (judge_after long (t ∷ types)) (values_short t types old few)

pub after_bad_truth : (t : SlotType) (types : List SlotType) (long : Bool) (old : List ℕ) → IsBadBool t old → refusal_after long (t ∷ types) old ≡ Some BadValue
after_bad_truth (PrimSlot BoolType) types long [] bad = absurd bad
after_bad_truth (PrimSlot BoolType) types long (truth ∷ behind) bad =
    after_is long (PrimSlot BoolType ∷ types) (truth ∷ behind)
    ∙ ap (judge_after long (PrimSlot BoolType ∷ types)) (values_next (PrimSlot BoolType) types (truth ∷ behind) (omega arith))
    ∙ bad_one (PrimSlot BoolType) types (value_of (PrimSlot BoolType) (take 1 (truth ∷ behind))) long (above_two truth bad) (values_of types (drop 1 (truth ∷ behind)))
after_bad_truth (PrimSlot ByteType) types long old bad = absurd bad
after_bad_truth (PrimSlot ShortType) types long old bad = absurd bad
after_bad_truth (PrimSlot IntType) types long old bad = absurd bad
after_bad_truth (PrimSlot LongType) types long old bad = absurd bad
after_bad_truth (BufSlot most) types long old bad = absurd bad

pub after_long : (t : SlotType) (types : List SlotType) (long : Bool) (old new : List ℕ) → IsTooLong t old → new ≡ drop (size_of t old) old → refusal_after long (t ∷ types) old ≡ refusal_after true types new
after_long (PrimSlot p) types long old new is stands = absurd is
after_long (BufSlot most) types long old new is stands =
    after_is long (BufSlot most ∷ types) old
    ∙ ap (judge_after long (BufSlot most ∷ types)) (values_next (BufSlot most) types old is.0)
    ∙ long_one (BufSlot most) types (value_of (BufSlot most) (take (2 + contents_length old) old)) long refl (long_is most old is.0 is.1) (values_of types (drop (2 + contents_length old) old))
    ∙ sym (after_is true types (drop (2 + contents_length old) old)) ∙ ap (refusal_after true types) (sym stands)

-- ---- what is stored

-- values that are not refused begin with the value that was read
never_after : (types : List SlotType) (b : Bool) → first_refusal ((b, BadValue) ∷ (true, BufferTooLong) ∷ []) ≡ None → ⊥
never_after types true e = let never = ap is_some e in cc
never_after types false e = let never = ap is_some e in cc

pub long_is_no_good : (types : List SlotType) (bytes : List ℕ) → refusal_after true types bytes ≡ None → ⊥
long_is_no_good types bytes e = never_after types (are_bad_values types bytes) e

pub refused_is_no_good : (r : Option Refusal) (refusal : Refusal) → r ≡ Some refusal → r ≡ None → ⊥
refused_is_no_good r refusal is e = let never = ap is_some (sym is ∙ e) in cc

good_taken : (t : SlotType) (types : List SlotType) (v : Value) (long : Bool) (r : Option (List Value)) → judge_after long types r ≡ None
    → option_map_or (λ values. values) (option_map (λ values. v ∷ values) r) [] ≡ v ∷ option_map_or (λ values. values) r []
unfolding judge_after
good_taken t types v long None e = absurd (let never = ap is_some e in cc)
good_taken t types v long (Some values) e = refl

pub taken_first : (t : SlotType) (types : List SlotType) (v : Value) (old new : List ℕ) → Reads (Spells t) v old new → refusal_after false types new ≡ None → taken (t ∷ types) old ≡ v ∷ taken types new
taken_first t types v old new r good =
    ap (λ r. option_map_or (λ values. values) r []) (values_read t types v old new r)
    ∙ good_taken t types v false (values_of types new) (sym (after_is false types new) ∙ good)

module _ (n : ℕ) (slots : List SlotInfo) (next : IsNext slots n) where
  pub good_none : (long : Bool) (old : List ℕ) → config_type_of next.slot ≡ None → refusal_after long (types_in (drop n slots)) old ≡ refusal_after long (types_in (drop (n + 1) slots)) old
  good_none long old none =
      ap (λ (ss : List SlotInfo). refusal_after long (types_in ss) old) next.first
      ∙ ap (λ (ts : List SlotType). refusal_after long ts old) (config_not next.slot (drop (n + 1) slots) n none).1

  pub after_some_slot : (t : SlotType) → config_type_of next.slot ≡ Some t → (long : Bool) (old : List ℕ) → refusal_after long (types_in (drop n slots)) old ≡ refusal_after long (t ∷ types_in (drop (n + 1) slots)) old
  after_some_slot t some long old =
      ap (λ (ss : List SlotInfo). refusal_after long (types_in ss) old) next.first
      ∙ ap (λ (ts : List SlotType). refusal_after long ts old) (config_first next.slot (drop (n + 1) slots) n t some).1

module _ (m : Meaning) (live : Places) (place : ℕ) (o : Object) (at : map.get live place ≡ Some o) (n : ℕ) (slots : List SlotInfo) (next : IsNext slots n) where
  -- what is no config property gets no value
  pub stores_none : (old : List ℕ) → config_type_of next.slot ≡ None → StoresSlot m live live place o n slots old old
  stores_none old none =
      let same = config_not next.slot (drop (n + 1) slots) n none in
      record {
        object = o;
        live = sym (put_same live place o at);
        class = refl;
        rest = sym (ap (λ (ss : List SlotInfo). stored_from m n ss old o) next.first
            ∙ ap (λ (ns : List ℕ). with_slots m (zip ns (taken (types_in (next.slot ∷ drop (n + 1) slots)) old)) o) same.0
            ∙ ap (λ (ts : List SlotType). with_slots m (zip (numbers_in (n + 1) (drop (n + 1) slots)) (taken ts old)) o) same.1);
      }

  module _ (t : SlotType) (some : config_type_of next.slot ≡ Some t) where
    pub stores_value : (v : Value) (old new : List ℕ) (left : Places) → Reads (Spells t) v old new → refusal_after false (types_in (drop (n + 1) slots)) new ≡ None
        → left ≡ map.insert live place (with_slot m o n v) → StoresSlot m live left place o n slots old new
    stores_value v old new left r good is =
        let same = config_first next.slot (drop (n + 1) slots) n t some in
        record {
          object = with_slot m o n v;
          live = is;
          class = refl;
          rest = sym (ap (λ (ss : List SlotInfo). stored_from m n ss old o) next.first
              ∙ ap (λ (ns : List ℕ). with_slots m (zip ns (taken (types_in (next.slot ∷ drop (n + 1) slots)) old)) o) same.0
              ∙ ap (λ (ts : List SlotType). with_slots m (zip (n ∷ numbers_in (n + 1) (drop (n + 1) slots)) (taken ts old)) o) same.1
              ∙ ap (λ (vs : List Value). with_slots m (zip (n ∷ numbers_in (n + 1) (drop (n + 1) slots)) vs) o) (taken_first t (types_in (drop (n + 1) slots)) v old new r good));
        }

-- what is asked of the slot with a number is asked of the next one
pub asked_next : (slots : List SlotInfo) (n : ℕ) (next : IsNext slots n) (r : Option SlotType) → r ≡ option_and_then config_type_of (slice_get slots n) → config_type_of next.slot ≡ r
asked_next slots n next r is = sym (is ∙ ap (option_and_then config_type_of) next.there)

-- ---- what is stored so far

pub record StoredSoFar (m : Meaning) (before after : Places) (place : ℕ) (o : Object) (n : ℕ) (slots : List SlotInfo) (bytes left : List ℕ) : Type 0 where
  pub object : Object
  pub live : after ≡ map.insert before place object
  pub class : object.class ≡ o.class
  pub rest : stored_from m n (drop n slots) left object ≡ stored_from m 0 slots bytes o

module _ (m : Meaning) (before : Places) (place : ℕ) (slots : List SlotInfo) (bytes : List ℕ) where
  pub stored_none : IfSome (map.get before place) (λ o. StoredSoFar m before before place o 0 slots bytes bytes)
  stored_none = by_object (map.get before place) refl
    where
      by_object : (r : Option Object) → map.get before place ≡ r → IfSome r (λ o. StoredSoFar m before before place o 0 slots bytes bytes)
      by_object None e = tt
      by_object (Some o) e = record { object = o; live = sym (put_same before place o e); class = refl; rest = refl }

  pub stored_more : (after next : Places) (n : ℕ) (left right : List ℕ) → IfSome (map.get before place) (λ o. StoredSoFar m before after place o n slots bytes left)
      → IfSome (map.get after place) (λ o. StoresSlot m after next place o n slots left right) → IfSome (map.get before place) (λ o. StoredSoFar m before next place o (n + 1) slots bytes right)
  stored_more after next n left right so_far more = by_object (map.get before place) so_far
    where
      by_object : (r : Option Object) → IfSome r (λ o. StoredSoFar m before after place o n slots bytes left) → IfSome r (λ o. StoredSoFar m before next place o (n + 1) slots bytes right)
      by_object None s = tt
      by_object (Some o) s =
          let here : map.get after place ≡ Some s.object = ap (λ (l : Places). map.get l place) s.live ∙ get_put before place s.object in
          let step : StoresSlot m after next place s.object n slots left right = subst (λ (r : Option Object). IfSome r (λ o. StoresSlot m after next place o n slots left right)) here more in
          record {
            object = step.object;
            live = step.live ∙ ap (λ (l : Places). map.insert l place step.object) s.live ∙ put_twice before place s.object step.object;
            class = step.class ∙ s.class;
            rest = step.rest ∙ s.rest;
          }

  -- the class stays, so that the next slot may be stored
  pub stored_class : (after : Places) (n : ℕ) (left : List ℕ) (class : ℕ) → IfSome (map.get before place) (λ o. StoredSoFar m before after place o n slots bytes left)
      → IsSomeAnd (map.get before place) (λ o. o.class ≡ class) → IsSomeAnd (map.get after place) (λ o. o.class ≡ class)
  stored_class after n left class so_far first = by_object (map.get before place) so_far first
    where
      by_object : (r : Option Object) → IfSome r (λ o. StoredSoFar m before after place o n slots bytes left) → IsSomeAnd r (λ o. o.class ≡ class) → IsSomeAnd (map.get after place) (λ o. o.class ≡ class)
      by_object None s never = absurd never
      by_object (Some o) s is =
          subst (λ (r : Option Object). IsSomeAnd r (λ o. o.class ≡ class)) (sym (ap (λ (l : Places). map.get l place) s.live ∙ get_put before place s.object)) (s.class ∙ is)

pub stored_all : (m : Meaning) (before after : Places) (place class : ℕ) (bytes left : List ℕ) (n : ℕ) → length (slots m.schema.classes class) ≤ n
    → IfSome (map.get before place) (λ o. StoredSoFar m before after place o n (slots m.schema.classes class) bytes left)
    → IfSome (map.get before place) (λ o. after ≡ map.insert before place (with_slots m (zip (config_slots m class) (taken (config_types m class) bytes)) o))
stored_all m before after place class bytes left n le so_far = by_object (map.get before place) so_far
  where
    by_object : (r : Option Object) → IfSome r (λ o. StoredSoFar m before after place o n (slots m.schema.classes class) bytes left)
        → IfSome r (λ o. after ≡ map.insert before place (with_slots m (zip (config_slots m class) (taken (config_types m class) bytes)) o))
    by_object None s = tt
    by_object (Some o) s =
        let end : s.object ≡ stored_from m 0 (slots m.schema.classes class) bytes o =
        sym (ap (λ (ss : List SlotInfo). stored_from m n ss left s.object) (drop_of_length-le (slots m.schema.classes class) le)) ∙ s.rest in
        s.live ∙ ap (map.insert before place) (end ∙ ap (λ (ts : List SlotType). with_slots m (zip (config_slots m class) (taken ts bytes)) o) (sym (types_are_config m class)))

-- ---- what may be stored

pub config_slot_type : (m : Meaning) (class n : ℕ) (next : IsNext (slots m.schema.classes class) n) (t : SlotType) → config_type_of next.slot ≡ Some t → slot_type m class n ≡ Some t
config_slot_type m class n next t some =
    ap (λ r. property_type (option_map (λ (x : SlotInfo). x.form) r)) next.there ∙ (config_by (is_config next.slot) next.slot.form t some).1

pub config_may : (m : Meaning) (class n : ℕ) (next : IsNext (slots m.schema.classes class) n) (t : SlotType) (v : Value) → config_type_of next.slot ≡ Some t → IsTrue (is_of_type t v) → IsTrue (may_store m class n v)
config_may m class n next t v some of = ap (λ r. option_map_or (λ t. goes_to t v) r false) (config_slot_type m class n next t some) ∙ goes_there t v of

-- a value that isn't read is refused
pub unread_is_no_good : (t : SlotType) (types : List SlotType) (old new : List ℕ) (fault : ValueFault) → (fault ≡ Short → length old < size_of t old) → (fault ≡ BadBool → IsBadBool t old) → (fault ≡ TooLong → IsTooLong t old)
    → StandsAfter fault t old new → refusal_after false (t ∷ types) old ≡ None → ⊥
unread_is_no_good t types old new Short short bad long stands good = refused_is_no_good _ BadValue (after_short t types false old new (short refl)) good
unread_is_no_good t types old new BadBool short bad long stands good = refused_is_no_good _ BadValue (after_bad_truth t types false old (bad refl)) good
unread_is_no_good t types old new TooLong short bad long stands good = long_is_no_good types new (sym (after_long t types false old new (long refl) stands) ∙ good)
