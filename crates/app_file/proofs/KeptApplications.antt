-- What a file keeps of a whole application is whole, is kept again as it is, and has the application's text.
use Rattle.std.proofs.Common.{ℕ, ◌≡◌, inl, true, false, List, [], ◌∷◌, ◌++◌, refl, sym, ◌∙◌, ap, subst}
use Rattle.std.specs.Prelude.{Some, IfSome, IsSome, IsTrue, is_some, slice_get, map as map_list}
use Rattle.std.specs.Option.{option_map_or}
use Rattle.std.specs.List.{AllByRecursion, zip}
use Rattle.std.specs.FinMap as map
use Rattle.sed_value.specs.declared.value.Value.{Value}
use Rattle.sed_value.specs.Value.{goes_to, stored}
use Rattle.sed_typed.specs.Contents.{value_at}
use Rattle.sed_engine.specs.Code.{Meaning, Object, is_creatable, may_store, new_object, slot_path, slot_value, with_slot}
use Rattle.sed_engine.specs.Fits.{Fits}
use Rattle.sed_engine.specs.Whole.{IsObject, IsWhole}
use Rattle.comp_tree.specs.Application.{Application, ById, Component, children_of, object_of}
use Rattle.sed_value.specs.Mapped.{on_values}
use Rattle.comp_tree.specs.Parts.{Kept, config_slots, kept_by_id, kept_component, kept_contents, values_in, with_slots}
use Rattle.comp_tree.specs.Whole.{Whole}
use Rattle.app_file.specs.Reading.{IsFile}
use Rattle.app_file.specs.Rows.{Row, row_of, rows_by, rows_of, sibling_behind}
use Rattle.app_file.specs.Text.{app_text, body_text, front_text, greatest_of, version}
use Rattle.comp_tree.proofs.EntriesOfMaps.{entries_are_got}
use Rattle.app_file.proofs.SlotValues.{config_is_typed}
use Rattle.app_file.proofs.ToldRows.{pairs}
use Rattle.app_file.proofs.ValuesOneWay.{AreTyped}
use Rattle.app_file.proofs.Added.{EachMay, slots_fit}
use Rattle.app_file.proofs.KeptValues.{IsStored, all_given, class_stays, same_values, stored_stays}
use Rattle.app_file.proofs.KeptWhole.{children_same, kept_entries, kept_is_whole}
use Rattle.app_file.proofs.RootCalls.{object_fits}
use Rattle.app_file.proofs.TakenValues.{goes_home}

module _ (m : Meaning) (code : IsWhole m)
    (put : (o : Object) (slot : ℕ) (v : Value) → IsObject m o → IsTrue (may_store m o.class slot v) → IsObject m (with_slot m o slot v))
    (made : (class : ℕ) → IsTrue (is_creatable m class) → IsObject m (new_object m class)) where
  -- ---- a component

  module _ (c : Component) (object : IsObject m (object_of c)) where
    abbrev numbers : List ℕ
    numbers = config_slots m c.class

    typed : AreTyped m c.class numbers (values_in m c numbers)
    typed = config_is_typed m c code.tables object.fits

    are_stored : (slots : List ℕ) → AreTyped m c.class slots (values_in m c slots) → AllByRecursion (IsStored m (object_of c)) slots
    are_stored [] are = tt
    are_stored (slot ∷ slots) are = (
      record { stays = ap (λ t. option_map_or (λ t. stored t (slot_value m (object_of c) slot)) t (slot_value m (object_of c) slot)) are.0.is ∙ stored_stays are.0.type (slot_value m (object_of c) slot) are.0.of },
      are_stored slots are.1,
    )

    have_places : (slots : List ℕ) → AreTyped m c.class slots (values_in m c slots)
        → AllByRecursion (λ slot. is_some (value_at (m.initial c.class) (slot_path m c.class slot)) ≡ true) slots
    have_places [] are = tt
    have_places (slot ∷ slots) are = (
      subst (λ t. IfSome t (λ t. IsSome (value_at (m.initial c.class) (slot_path m c.class slot)))) are.0.is (code.tables.values c.class slot),
      have_places slots are.1,
    )

    may_be_stored : (slots : List ℕ) → AreTyped m c.class slots (values_in m c slots) → EachMay m c.class (map_list (λ slot. (slot, slot_value m (object_of c) slot)) slots)
    may_be_stored [] are = tt {0}
    may_be_stored (slot ∷ slots) are = (
      ap (λ r. option_map_or (λ t. goes_to t (slot_value m (object_of c) slot)) r false) are.0.is ∙ goes_home are.0.type (slot_value m (object_of c) slot) are.0.of,
      may_be_stored slots are.1,
    )

    kept_fits : Fits m.fields (m.fields c.class) (m.initial c.class) (kept_contents m c)
    kept_fits =
        let o = slots_fit m put (map_list (λ slot. (slot, slot_value m (object_of c) slot)) numbers) (new_object m c.class) (made c.class object.creatable) (may_be_stored numbers typed) in
        subst (λ k. Fits m.fields (m.fields k) (m.initial k) (kept_contents m c)) (class_stays m (object_of c) numbers (m.initial c.class)) o.fits

    values_same : values_in m (kept_component m c) numbers ≡ values_in m c numbers
    values_same =
        same_values m (object_of c) numbers (object_of (kept_component m c)) refl
        (all_given m (object_of c) numbers (m.initial c.class) (are_stored numbers typed) (have_places numbers typed))

    kept_twice : kept_component m (kept_component m c) ≡ kept_component m c
    kept_twice =
        ap (λ (values : List (ℕ × Value)). let k : Component = record {
          class = c.class;
          name = c.name;
          parent = c.parent;
          children = c.children;
          contents = (with_slots m values (new_object m c.class)).contents;
          fault = 0;
        } in k)
        (pairs (slot_value m (object_of (kept_component m c))) numbers ∙ ap (zip numbers) values_same ∙ sym (pairs (slot_value m (object_of c)) numbers))

    row_same : (children : ℕ → List ℕ) (id : ℕ) → row_of m children id (kept_component m c) ≡ row_of m children id c
    row_same children id =
        ap (λ (values : List Value). let r : Row = record {
          id = id;
          class = c.class;
          name = c.name;
          parent = c.parent;
          first_child = slice_get c.children 0;
          next_sibling = sibling_behind children id c.parent;
          config = values;
        } in r) values_same

  -- ---- the application

  keys_stay : (es : List (ℕ × Component)) → map_list (λ (e : ℕ × Component). e.0) (on_values (kept_component m) es) ≡ map_list (λ (e : ℕ × Component). e.0) es
  keys_stay [] = refl
  keys_stay (e ∷ es) = ap (λ (ids : List ℕ). e.0 ∷ ids) (keys_stay es)

  module _ (a : Application) (whole : Whole m a) where
    abbrev all : ById
    all = a.components.by_id

    twice_each : (es : List (ℕ × Component)) → AllByRecursion (λ e. map.get all e.0 ≡ Some e.1) es
        → on_values (kept_component m) (on_values (kept_component m) es) ≡ on_values (kept_component m) es
    twice_each [] got = refl
    twice_each (e ∷ es) got =
        let here = kept_twice e.1 (object_fits m code a whole e.0 e.1 got.0) in
        let rest = twice_each es got.1 in
        λ i. (e.0, here i) ∷ rest i

    rows_each : (children : ℕ → List ℕ) (es : List (ℕ × Component)) → AllByRecursion (λ e. map.get all e.0 ≡ Some e.1) es
        → rows_by m children (on_values (kept_component m) es) ≡ rows_by m children es
    rows_each children [] got = refl
    rows_each children (e ∷ es) got =
        let here = row_same e.1 (object_fits m code a whole e.0 e.1 got.0) children e.0 in
        let rest = rows_each children es got.1 in
        λ i. here i ∷ rest i

    kept_again : Kept m (Kept m a) ≡ Kept m a
    kept_again =
        let by_id : kept_by_id m (kept_by_id m all) ≡ kept_by_id m all =
        ap (λ (es : List (ℕ × Component)). let all : ById = map.from_sorted es in all) (ap (on_values (kept_component m)) (kept_entries m all) ∙ twice_each (map.entries all) (entries_are_got all)) in
        λ i. record { components = record { by_id = by_id i; statics = m.initial_statics; limit = a.components.limit }; links = a.links }

    keys_same : map.keys (kept_by_id m all) ≡ map.keys all
    keys_same = ap (map_list (λ (e : ℕ × Component). e.0)) (kept_entries m all) ∙ keys_stay (map.entries all)

    rows_same : rows_of m (kept_by_id m all) ≡ rows_of m all
    rows_same = (λ i. rows_by m (λ id. children_same m all id i) (kept_entries m all i)) ∙ rows_each (children_of all) (map.entries all) (entries_are_got all)

    pub text_same : app_text m (Kept m a) ≡ app_text m a
    text_same =
        ap (λ (ids : List ℕ). front_text version m.schema.kits ++ body_text m (greatest_of ids) (rows_of m (kept_by_id m all)) a.links) keys_same
        ∙ ap (λ (rows : List Row). front_text version m.schema.kits ++ body_text m (greatest_of (map.keys all)) rows a.links) rows_same

    pub kept_is_file : IsFile m a.components.limit (app_text m a) (Kept m a)
    kept_is_file = record {
      whole = kept_is_whole m a whole code.tables.first_statics (λ id c there. kept_fits c (object_fits m code a whole id c there));
      kept = kept_again;
      under = refl;
      text = inl (sym text_same);
    }
