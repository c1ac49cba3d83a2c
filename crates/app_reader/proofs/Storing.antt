-- Values that are stored in slots one after another, and what is read there then.
use Rattle.std.proofs.Common.{◌≡◌, ℕ, zero, suc, Bool, true, false, IsTrue, List, [], ◌∷◌, length, refl, sym, subst, ◌∙◌, ap, arith, eqb-true}
use Rattle.std.specs.Prelude.{Option, Some, None, IfSome, IsSome, IsSomeAnd, is_some, ◌==◌, map as map_list, slice_get}
use Rattle.std.specs.Option.{option_map, option_map_or}
use Rattle.std.specs.List.{AllByRecursion, filter_map, zip}
use Rattle.std.specs.Str.{bytes_eq}
use Rattle.std.proofs.lemmas.Bool.Decides.{nat_tests}
use Rattle.std.proofs.lemmas.Slice.Eq.{bytes_eq-Decides}
use Rattle.sed_value.specs.declared.slot_type.SlotType.{SlotType}
use Rattle.sed_value.specs.declared.value.Value.{Value}
use Rattle.sed_value.specs.declared.value.Value.TheVariants.{Nothing}
use Rattle.sed_value.specs.Value.{stored}
use Rattle.sed_typed.specs.Contents.{Contents, Path, value_at, with_value}
use Rattle.sed_engine.specs.Code.{Meaning, Object, is_property, is_same_field, new_object, slot_keeps, slot_path, slot_type, slot_value}
use Rattle.sed_engine.specs.Fits.{form_at}
use Rattle.sed_engine.specs.Whole.{HasTables, field_form}
use Rattle.std.proofs.lemmas.Option.{slice_get-map}
use Rattle.node_table.proofs.StoredLemmas.{beside_written, never, stored_stays, there_written}
use Rattle.comp_tree.specs.Parts.{config_slots, with_slots}
use Rattle.app_front.specs.Rows.{AreOfTypes}
use Rattle.app_reader.proofs.Objects.{IsProperty, config_are}
use Rattle.app_reader.specs.Pairs.{Agree, AreProperties}

-- ---- pairs of slots and values, stored in an object

module _ (m : Meaning) (class : ℕ) where
  abbrev path : ℕ → Path
  path slot = slot_path m class slot

  abbrev after : Contents → ℕ → Value → Contents
  after es slot v = with_value es (path slot) (slot_keeps m class slot v)

  abbrev object : Contents → Object
  object es = record { class = class; contents = es }

  abbrev stored_all : List (ℕ × Value) → Contents → Contents
  stored_all pairs es = (with_slots m pairs (object es)).contents

  some_kept : (r : Option Value) (v : Value) → is_some r ≡ true → option_map (λ _. v) r ≡ Some v
  some_kept None v is = never is
  some_kept (Some w) v is = refl

  still_some : (r : Option Value) (v : Value) → is_some (option_map (λ _. v) r) ≡ is_some r
  still_some None v = refl
  still_some (Some w) v = refl

  -- what was stored is read there
  written : (es : Contents) (slot : ℕ) (v : Value) → slot_keeps m class slot v ≡ v → is_some (value_at es (path slot)) ≡ true → value_at (after es slot v) (path slot) ≡ Some v
  written es slot v keeps there =
      there_written (path slot) (slot_keeps m class slot v) es ∙ some_kept (value_at es (path slot)) (slot_keeps m class slot v) there ∙ ap Some keeps

  -- and no path goes
  stays_there : (es : Contents) (slot : ℕ) (v : Value) (p : Path) → is_some (value_at (after es slot v) p) ≡ is_some (value_at es p)
  stays_there es slot v p = by_test (bytes_eq (path slot) p) refl
    where
      by_test : (b : Bool) → bytes_eq (path slot) p ≡ b → is_some (value_at (after es slot v) p) ≡ is_some (value_at es p)
      by_test false is = ap is_some (beside_written (path slot) (slot_keeps m class slot v) p is es)
      by_test true is =
          let same : path slot ≡ p = (bytes_eq-Decides (path slot) p).0 is in
          subst (λ p. is_some (value_at (after es slot v) p) ≡ is_some (value_at es p)) same
          (ap is_some (there_written (path slot) (slot_keeps m class slot v) es) ∙ still_some (value_at es (path slot)) (slot_keeps m class slot v))

  -- each keeps its value as it is
  abbrev Keep : List (ℕ × Value) → Type 0
  Keep pairs = AllByRecursion (λ (e : ℕ × Value). slot_keeps m class e.0 e.1 ≡ e.1) pairs

  -- a value stays where the others that go there are the same
  abbrev SameAt : Path → Value → List (ℕ × Value) → Type 0
  SameAt p v pairs = AllByRecursion (λ (e : ℕ × Value). path e.0 ≡ p → e.1 ≡ v) pairs

  stays_same : (pairs : List (ℕ × Value)) (es : Contents) (p : Path) (v : Value) → Keep pairs → SameAt p v pairs → value_at es p ≡ Some v → value_at (stored_all pairs es) p ≡ Some v
  stays_same [] es p v keep same has = has
  stays_same (e ∷ pairs) es p v keep same has = stays_same pairs (after es e.0 e.1) p v keep.1 same.1 (by_test (bytes_eq (path e.0) p) refl)
    where
      by_test : (b : Bool) → bytes_eq (path e.0) p ≡ b → value_at (after es e.0 e.1) p ≡ Some v
      by_test false is = beside_written (path e.0) (slot_keeps m class e.0 e.1) p is es ∙ has
      by_test true is =
          let here : path e.0 ≡ p = (bytes_eq-Decides (path e.0) p).0 is in
          let there : is_some (value_at es (path e.0)) ≡ true = ap (λ p. is_some (value_at es p)) here ∙ ap is_some has in
          subst (λ p. value_at (after es e.0 e.1) p ≡ Some v) here (written es e.0 e.1 keep.0 there ∙ ap Some (same.0 here))

  -- each value agrees with those behind it
  AgreeBehind : List (ℕ × Value) → Type 0
  AgreeBehind [] = Unit {0}
  AgreeBehind (e ∷ pairs) = SameAt (path e.0) e.1 pairs × AgreeBehind pairs

  abbrev Present : Contents → List (ℕ × Value) → Type 0
  Present es pairs = AllByRecursion (λ (e : ℕ × Value). is_some (value_at es (path e.0)) ≡ true) pairs

  still_present : (es : Contents) (slot : ℕ) (v : Value) (pairs : List (ℕ × Value)) → Present es pairs → Present (after es slot v) pairs
  still_present es slot v [] all = tt
  still_present es slot v (e ∷ pairs) all = (stays_there es slot v (path e.0) ∙ all.0, still_present es slot v pairs all.1)

  all_read : (pairs : List (ℕ × Value)) (es : Contents) → Keep pairs → AgreeBehind pairs → Present es pairs
      → AllByRecursion (λ (e : ℕ × Value). value_at (stored_all pairs es) (path e.0) ≡ Some e.1) pairs
  unfolding AgreeBehind
  all_read [] es keep agree present = tt
  all_read (e ∷ pairs) es keep agree present = (
    stays_same pairs (after es e.0 e.1) (path e.0) e.1 keep.1 agree.0 (written es e.0 e.1 keep.0 present.0),
    all_read pairs (after es e.0 e.1) keep.1 agree.1 (still_present es e.0 e.1 pairs present.1),
  )

  -- ---- slots of one field

  some_number : (i j : ℕ) → ◌≡◌ {A = Option ℕ} (Some i) (Some j) → i ≡ j
  some_number i j e = cc

  same_path : (a b : ℕ) → IsTrue (is_same_field m class a b) → path a ≡ path b
  same_path a b is = by_fields (m.slot_field class a) (m.slot_field class b) is
    where
      by_fields : (f g : Option ℕ) → IsTrue (option_map_or (λ i. option_map_or (λ j. i == j) g false) f false) → ◌≡◌ {A = Path} (option_map_or (λ i. i ∷ []) f []) (option_map_or (λ i. i ∷ []) g [])
      by_fields None g is = absurd (let no : false ≡ true = is in cc)
      by_fields (Some i) None is = absurd (let no : false ≡ true = is in cc)
      by_fields (Some i) (Some j) is = ap (λ (n : ℕ). n ∷ []) (eqb-true i j is)

  head_of : Path → ℕ
  head_of [] = 0
  head_of (i ∷ path) = i

  same_field : (a b : ℕ) → IsSome (m.slot_field class a) → IsSome (m.slot_field class b) → path a ≡ path b → IsTrue (is_same_field m class a b)
  unfolding head_of
  same_field a b some_a some_b same = by_fields (m.slot_field class a) (m.slot_field class b) some_a some_b same
    where
      by_fields : (f g : Option ℕ) → IsSome f → IsSome g → ◌≡◌ {A = Path} (option_map_or (λ i. i ∷ []) f []) (option_map_or (λ i. i ∷ []) g [])
          → IsTrue (option_map_or (λ i. option_map_or (λ j. i == j) g false) f false)
      by_fields None g some_f some_g same = absurd (let no : false ≡ true = some_f in cc)
      by_fields (Some i) None some_f some_g same = absurd (let no : false ≡ true = some_g in cc)
      by_fields (Some i) (Some j) some_f some_g same = let e : i ≡ j = ap head_of same in grind (arith, nat_tests)

-- ---- config slots are properties

at_recursion : {A : Type 0} (P : A → Type 0) (xs : List A) (k : ℕ) (x : A) → AllByRecursion P xs → slice_get xs k ≡ Some x → P x
at_recursion {A} P [] k x all at = absurd (let no : ◌≡◌ {A = Option A} None (Some x) = at in cc)
at_recursion {A} P (y ∷ xs) zero x all at = subst P (let both : ◌≡◌ {A = Option A} (Some y) (Some x) = at in let same : y ≡ x = cc in same) all.0
at_recursion P (y ∷ xs) (suc k) x all at = at_recursion P xs k x all.1 at

property_by : (m : Meaning) (class slot : ℕ) → IsProperty m class slot → IsTrue (is_property m class slot)
property_by m class slot is = ap (λ (t : Option SlotType). option_map_or (λ _. true) t false) is.is

pub config_are_properties : (m : Meaning) (class : ℕ) → AreProperties m class (config_slots m class)
config_are_properties m class n a at = property_by m class a (at_recursion (IsProperty m class) (config_slots m class) n a (config_are m class) at)

-- ---- as many values as slots, each of its type

module _ (m : Meaning) (class : ℕ) (tables : HasTables m) where
  same_sizes : (numbers : List ℕ) (values : List Value) → AllByRecursion (IsProperty m class) numbers → AreOfTypes (filter_map (slot_type m class) numbers) values → length numbers ≡ length values
  same_sizes [] [] all are = refl
  same_sizes [] (v ∷ values) all are = absurd are
  same_sizes (n ∷ numbers) [] all are = let typed : AreOfTypes (all.0.type ∷ filter_map (slot_type m class) numbers) [] = rw all.0.is at are in absurd typed
  same_sizes (n ∷ numbers) (v ∷ values) all are =
      let typed : AreOfTypes (all.0.type ∷ filter_map (slot_type m class) numbers) (v ∷ values) = rw all.0.is at are in
      ap suc (same_sizes numbers values all.1 typed.1)

  each_keeps : (numbers : List ℕ) (values : List Value) → AllByRecursion (IsProperty m class) numbers → AreOfTypes (filter_map (slot_type m class) numbers) values → Keep m class (zip numbers values)
  each_keeps [] values all are = tt
  each_keeps (n ∷ numbers) [] all are = tt
  each_keeps (n ∷ numbers) (v ∷ values) all are =
      let typed : AreOfTypes (all.0.type ∷ filter_map (slot_type m class) numbers) (v ∷ values) = rw all.0.is at are in
      (ap (λ t. option_map_or (λ t. stored t v) t v) all.0.is ∙ stored_stays all.0.type v typed.0, each_keeps numbers values all.1 typed.1)

  each_present : (numbers : List ℕ) (values : List Value) → AllByRecursion (IsProperty m class) numbers → Present m class (m.initial class) (zip numbers values)
  each_present [] values all = tt
  each_present (n ∷ numbers) [] all = tt
  each_present (n ∷ numbers) (v ∷ values) all =
      (subst (λ t. IfSome t (λ t. IsSome (value_at (m.initial class) (slot_path m class n)))) all.0.is (tables.values class n), each_present numbers values all.1)

  has_field : (n : ℕ) → IsProperty m class n → IsSome (m.slot_field class n)
  has_field n is = by_field (λ i. form_at (m.fields class) i ≡ Some (field_form is.type)) (m.slot_field class n) (subst (λ (s : Option SlotType). IfSome s (λ t. IsSomeAnd (m.slot_field class n) (λ i. form_at (m.fields class) i ≡ Some (field_form t)))) is.is (tables.slot_fields class n))
    where
      by_field : (P : ℕ → Type 0) (o : Option ℕ) → IsSomeAnd o P → IsSome o
      by_field P None is = absurd is
      by_field P (Some i) is = refl

  zip_each : (P : ℕ × Value → Type 0) (numbers : List ℕ) (values : List Value) → ((j b : ℕ) (w : Value) → slice_get numbers j ≡ Some b → slice_get values j ≡ Some w → P (b, w))
      → AllByRecursion P (zip numbers values)
  zip_each P [] values each = tt
  zip_each P (n ∷ numbers) [] each = tt
  zip_each P (n ∷ numbers) (v ∷ values) each = (each 0 n v refl refl, zip_each P numbers values (λ j. each (suc j)))

  agree_behind : (numbers : List ℕ) (values : List Value) → AllByRecursion (IsProperty m class) numbers → Agree m class numbers values → AgreeBehind m class (zip numbers values)
  unfolding AgreeBehind
  agree_behind [] values all agree = tt
  agree_behind (n ∷ numbers) [] all agree = tt
  agree_behind (n ∷ numbers) (v ∷ values) all agree = (
    zip_each (λ (e : ℕ × Value). path m class e.0 ≡ path m class n → e.1 ≡ v) numbers values
        (λ j b w at at' same. sym (agree 0 (suc j) n b v w (omega arith) refl at refl at'
        (same_field m class n b (has_field n all.0) (has_field b (at_recursion (IsProperty m class) numbers j b all.1 at)) (sym same)))),
    agree_behind numbers values all.1 (λ i j a b v w lt. agree (suc i) (suc j) a b v w (omega (arith, lt))),
  )

  values_read : (contents : Contents) (numbers : List ℕ) (values : List Value) → length numbers ≡ length values
      → AllByRecursion (λ (e : ℕ × Value). value_at contents (path m class e.0) ≡ Some e.1) (zip numbers values) → map_list (slot_value m (object m class contents)) numbers ≡ values
  values_read contents [] [] sizes all = refl
  values_read contents [] (v ∷ values) sizes all = absurd (omega (arith, sizes))
  values_read contents (n ∷ numbers) [] sizes all = absurd (omega (arith, sizes))
  values_read contents (n ∷ numbers) (v ∷ values) sizes all =
      let here : slot_value m (object m class contents) n ≡ v = ap (λ (o : Option Value). option_map_or (λ v. v) o Nothing) all.0 in
      let rest = values_read contents numbers values (let e : length numbers ≡ length values = omega (arith, sizes) in e) all.1 in
      λ i. here i ∷ rest i

  module _ (values : List Value) (are : AreOfTypes (filter_map (slot_type m class) (config_slots m class)) values) where
    abbrev contents : Contents
    contents = (with_slots m (zip (config_slots m class) values) (new_object m class)).contents

    pub sizes : length (config_slots m class) ≡ length values
    sizes = same_sizes (config_slots m class) values (config_are m class) are

    pub gives_where_agreed : Agree m class (config_slots m class) values → map_list (slot_value m (object m class contents)) (config_slots m class) ≡ values
    gives_where_agreed agree =
        values_read contents (config_slots m class) values sizes
        (all_read m class (zip (config_slots m class) values) (m.initial class) (each_keeps (config_slots m class) values (config_are m class) are)
        (agree_behind (config_slots m class) values (config_are m class) agree) (each_present (config_slots m class) values (config_are m class)))

    some_value : (v w : Value) → ◌≡◌ {A = Option Value} (Some v) (Some w) → v ≡ w
    some_value v w e = cc

    pub agrees_where_given : map_list (slot_value m (object m class contents)) (config_slots m class) ≡ values → Agree m class (config_slots m class) values
    agrees_where_given gives i j a b v w lt at at' is is' same =
        let read : ℕ → Value = slot_value m (object m class contents) in
        let one : read a ≡ v = some_value (read a) v (sym (slice_get-map read (config_slots m class) i ∙ ap (option_map read) at) ∙ ap (λ (xs : List Value). slice_get xs i) gives ∙ is) in
        let other : read b ≡ w = some_value (read b) w (sym (slice_get-map read (config_slots m class) j ∙ ap (option_map read) at') ∙ ap (λ (xs : List Value). slice_get xs j) gives ∙ is') in
        let both : read a ≡ read b = ap (λ (p : Path). option_map_or (λ v. v) (value_at contents p) Nothing) (same_path m class a b same) in
        sym one ∙ both ∙ other
