-- What an add leaves of a whole application.
use Rattle.std.proofs.Common.{ℕ, suc, ℤ, ◌≡◌, ◌≢◌, ◌<◌, ◌≤◌, ◌+◌, Bool, true, false, cond, inl, inr, refl, sym, ◌∙◌, ap, subst, arith}
use Rattle.std.specs.Prelude.{Option, Some, None, IfSome, IsSomeAnd, IsTrue, is_some, not, ◌&&◌, nat_le, nat_lt, List, [], ◌∷◌, ◌++◌, filter, length, map as map_list, slice_get}
use Rattle.std.specs.Option.{option_and_then, option_map, option_map_or}
use Rattle.std.specs.List.{IsDistinct, cons_option, enumerate_from, filter_map, zip}
use Rattle.std.specs.Str.{bytes_eq}
use Rattle.std.specs.FinMap as map
use Rattle.std.proofs.lemmas.Bool.{cases_eq}
use Rattle.std.proofs.lemmas.Bool.Decides.{nat_tests}
use Rattle.std.proofs.lemmas.List.{length-append}
use Rattle.sed_value.specs.Names.{is_name}
use Rattle.sed_value.specs.Value.{are_bytes, goes_to}
use Rattle.sed_value.specs.declared.slot_type.SlotType.{SlotType}
use Rattle.sed_value.specs.declared.value.Value.{Value}
use Rattle.sed_typed.specs.declared.schema.SlotForm.{SlotForm}
use Rattle.sed_typed.specs.declared.schema.SlotForm.TheVariants.{Prop, Action}
use Rattle.sed_typed.specs.declared.schema.SlotInfo.{SlotInfo}
use Rattle.sed_typed.specs.Classes.{slots}
use Rattle.sed_typed.specs.Schemas.{type_at as class_numbered}
use Rattle.sed_engine.specs.declared.call.Callback.TheVariants.{Start}
use Rattle.sed_engine.specs.declared.call.Root.TheVariants.{Callback}
use Rattle.sed_engine.specs.Code.{Meaning, Object, is_creatable, may_store, new_object, property_type, slot_type, with_slot}
use Rattle.sed_engine.specs.Fits.{Fits}
use Rattle.sed_engine.specs.Whole.{IsObject, IsWhole}
use Rattle.comp_tree.specs.Application.{Application, ById, Component, children_of, data_size_of, is_live, most_children, most_components, name_of, parent_of, with_components}
use Rattle.comp_tree.specs.Calls.{callback_argument}
use Rattle.comp_tree.specs.Edit.{class_or_none, over}
use Rattle.comp_tree.specs.Edits.{added, after_add, new_component, with_child}
use Rattle.comp_tree.specs.Order.{depth, least_free}
use Rattle.comp_tree.specs.Parts.{config_slots, is_config, is_property_form, with_slots}
use Rattle.comp_tree.specs.Refusals.{config_types, first_refusal, is_abstract_class, is_child_named, is_for_components, refusals_of_add}
use Rattle.comp_tree.specs.Values.{are_bad_values, have_long_buffer, taken}
use Rattle.comp_tree.specs.Shape.{up_by}
use Rattle.comp_tree.specs.Whole.{Each, IsApp, IsOther, Whole}
use Rattle.comp_tree.proofs.AddLemmas.{class_kept}
use Rattle.comp_tree.proofs.DepthLemmas.{depth_is}
use Rattle.comp_tree.proofs.MapLemmas.{get_beside, get_put}
use Rattle.comp_tree.proofs.ShapeLemmas.{In, in_child, in_from, once_from}
use Rattle.comp_tree.proofs.ShapeSteps.{tree_more}
use Rattle.sed_value.proofs.Maps.{total, total_more, total_over}
use Rattle.link_prop.proofs.AlikeComponents.{link_with_classes}
use Rattle.app_file.proofs.FreeIds.{least_is_free}
use Rattle.app_file.proofs.Names.{names_apart, names_differ, turned_bytes}
use Rattle.app_file.proofs.Nodes.{any_false, siblings_from, siblings_to}
use Rattle.app_file.proofs.PutComponents.{app_put, each_put, same_put, was_put}
use Rattle.app_file.proofs.Refused.{AllFalse, all_false, not_false}
use Rattle.app_file.proofs.RootCalls.{creatable_class, whole_run}
use Rattle.app_file.proofs.TakenValues.{EachOf, goes_home, taken_are}
use Rattle.app_file.proofs.Trees.{IsTreeOf, ids_end, tree_depths, tree_rooted}
use Rattle.comp_tree.proofs.WithinLimits.{tree_of}

-- ---- the values of a new component

abbrev pub EachMay : Meaning → ℕ → List (ℕ × Value) → Type 0
EachMay m class [] = Unit {0}
EachMay m class (e ∷ pairs) = IsTrue (may_store m class e.0 e.1) × EachMay m class pairs

-- each of these slots is a property
abbrev EachProperty : Meaning → ℕ → List ℕ → Type 0
EachProperty m class [] = Unit {0}
EachProperty m class (slot ∷ rest) = IsTrue (is_some (slot_type m class slot)) × EachProperty m class rest

module _ (m : Meaning) (stored : (o : Object) (slot : ℕ) (v : Value) → IsObject m o → IsTrue (may_store m o.class slot v) → IsObject m (with_slot m o slot v)) where
  pub slots_fit : (pairs : List (ℕ × Value)) (o : Object) → IsObject m o → EachMay m o.class pairs → IsObject m (with_slots m pairs o)
  slots_fit [] o is may = is
  slots_fit (e ∷ pairs) o is may = slots_fit pairs (with_slot m o e.0 e.1) (stored o e.0 e.1 is may.0) may.1

may_each : (m : Meaning) (class : ℕ) (numbers : List ℕ) (values : List Value) → EachProperty m class numbers → EachOf (filter_map (slot_type m class) numbers) values → EachMay m class (zip numbers values)
may_each m class [] values are of = tt {0}
may_each m class (slot ∷ numbers) values are of = by_type (slot_type m class slot) refl are.0 values of (λ rest. may_each m class numbers rest are.1)
  where
    by_type : (r : Option SlotType) → slot_type m class slot ≡ r → IsTrue (is_some r) → (values : List Value) → EachOf (cons_option r (filter_map (slot_type m class) numbers)) values
        → ((rest : List Value) → EachOf (filter_map (slot_type m class) numbers) rest → EachMay m class (zip numbers rest)) → EachMay m class (zip (slot ∷ numbers) values)
    by_type None at there values of more = absurd (let no : false ≡ true = there in cc)
    by_type (Some t) at there [] of more = tt {0}
    by_type (Some t) at there (v ∷ rest) of more = (ap (λ r. option_map_or (λ t. goes_to t v) r false) at ∙ goes_home t v of.0, more rest of.1)

property_each : (m : Meaning) (class n : ℕ) (whole some : List SlotInfo) → slots m.schema.classes class ≡ whole → ((i : ℕ) → slice_get whole (n + i) ≡ slice_get some i)
    → EachProperty m class (map_list (λ (e : ℕ × SlotInfo). e.0) (filter (λ (e : ℕ × SlotInfo). is_config e.1) (enumerate_from n some)))
property_each m class n whole [] are at = tt {0}
property_each m class n whole (s ∷ some) are at =
    by_test (is_config s) refl (property_each m class (n + 1) whole some are (λ i. ap (slice_get whole) (let e : (n + 1) + i ≡ n + suc i = omega arith in e) ∙ at (suc i)))
  where
    here : slice_get (slots m.schema.classes class) n ≡ Some s
    here = ap (λ (xs : List SlotInfo). slice_get xs n) are ∙ ap (slice_get whole) (let e : n ≡ n + 0 = omega arith in e) ∙ at 0

    of_form : (f : SlotForm) → IsTrue (is_property_form f && s.config) → IsTrue (is_some (property_type (Some f)))
    of_form (Prop t) h = refl
    of_form (Action a) h = absurd (let no : false ≡ true = h in cc)

    by_test : (b : Bool) → is_config s ≡ b → EachProperty m class (map_list (λ (e : ℕ × SlotInfo). e.0) (filter (λ (e : ℕ × SlotInfo). is_config e.1) (enumerate_from (n + 1) some)))
        → EachProperty m class (map_list (λ (e : ℕ × SlotInfo). e.0) (cond b ((n, s) ∷ filter (λ (e : ℕ × SlotInfo). is_config e.1) (enumerate_from (n + 1) some)) (filter (λ (e : ℕ × SlotInfo). is_config e.1) (enumerate_from (n + 1) some))))
    by_test false is rest = rest
    by_test true is rest = (ap (λ (r : Option SlotInfo). is_some (property_type (option_map (λ (s : SlotInfo). s.form) r))) here ∙ of_form s.form is, rest)

config_may : (m : Meaning) (class : ℕ) (values : List Value) → EachOf (config_types m class) values → EachMay m class (zip (config_slots m class) values)
config_may m class values of =
    may_each m class (config_slots m class) values
    (property_each m class 0 (slots m.schema.classes class) (slots m.schema.classes class) refl (λ i. ap (slice_get (slots m.schema.classes class)) (let e : 0 + i ≡ i = omega arith in e))) of

-- ---- one more component

module _ (m : Meaning) (code : IsWhole m) (stored : (o : Object) (slot : ℕ) (v : Value) → IsObject m o → IsTrue (may_store m o.class slot v) → IsObject m (with_slot m o slot v))
    (made : (class : ℕ) → IsTrue (is_creatable m class) → IsObject m (new_object m class))
    (a : Application) (whole : Whole m a) (parent class : ℕ) (name : List ℕ) (values : List Value)
    (live : IsTrue (is_live a.components.by_id parent)) (other : (IsTrue (is_for_components m class)) × IsTrue (not (is_abstract_class m class))) (named : IsTrue (is_name name))
    (not_taken : is_child_named a.components.by_id parent name ≡ false) (few : length (children_of a.components.by_id parent) < most_children) (shallow : depth a.components.by_id parent < 16)
    (room : map.len a.components.by_id < most_components) (of : EachOf (config_types m class) values) (fits : data_size_of m a.components.by_id + m.data_size class ≤ a.components.limit) where
  abbrev all : ById
  all = a.components.by_id

  tree : IsTreeOf all
  tree = tree_of m a whole

  abbrev new : ℕ
  new = least_free all

  free : is_live all new ≡ false
  free = (least_is_free all room).0

  abbrev n : Component
  n = new_component m (Some parent) class name values

  none_of : (r : Option Component) → is_some r ≡ false → r ≡ None
  none_of None e = refl
  none_of (Some c) e = absurd (let no : true ≡ false = e in cc)

  not_there : map.get all new ≡ None
  not_there = none_of (map.get all new) free

  some_of : (r : Option Component) → IsTrue (is_some r) → (c : Component) × (r ≡ Some c)
  some_of None never = absurd (let no : false ≡ true = never in cc)
  some_of (Some c) h = (c, refl)

  holder : (c : Component) × (map.get all parent ≡ Some c)
  holder = some_of (map.get all parent) live

  abbrev k : Component
  k = holder.0

  abbrev mid : ById
  mid = map.insert all parent (with_child new k)

  abbrev after : ById
  after = added m all new parent class name values

  after_is : after ≡ map.insert mid new n
  after_is = ap (λ r. map.insert (option_map_or (λ (c : Component). map.insert all parent (with_child new c)) r all) new n) holder.1

  live_apart : (q : ℕ) → IsTrue (is_live all q) → q ≢ new
  live_apart q is e = let no : true ≡ false = sym is ∙ ap (is_live all) e ∙ free in cc

  get_new : map.get after new ≡ Some n
  get_new = ap (λ (b : ById). map.get b new) after_is ∙ get_put mid new n

  get_old : (q : ℕ) → q ≢ new → map.get after q ≡ map.get mid q
  get_old q ne = ap (λ (b : ById). map.get b q) after_is ∙ get_beside mid new n q ne

  same : {A : Type 0} (F : Option Component → A) → F (Some (with_child new k)) ≡ F (Some k) → (q : ℕ) → q ≢ new → F (map.get after q) ≡ F (map.get all q)
  same F is q ne = ap F (get_old q ne) ∙ same_put all parent k (with_child new k) holder.1 F is q

  steps : (s : ℕ) × (suc s ≤ 16) × (up_by (parent_of all) s parent ≡ Some 0)
  steps =
      let w = tree.within parent live in
      let deep : depth all parent ≡ w.0 = depth_is (parent_of all) 17 w.0 parent tree.root (let le = w.1 in omega arith) w.2 in
      (w.0, let lt = shallow in omega arith, w.2)

  grown : IsTreeOf after
  grown =
      tree_more (is_live all) (parent_of all) (children_of all) tree (is_live after) (parent_of after) (children_of after) new parent free steps.0 steps.1 steps.2
      (ap is_some get_new)
      (λ q ne. same is_some refl q ne)
      (ap (option_and_then (λ (c : Component). c.parent)) get_new)
      (λ q ne. same (option_and_then (λ (c : Component). c.parent)) refl q ne)
      (ap (λ r. option_map_or (λ (c : Component). c.children) r []) (get_old parent (live_apart parent live) ∙ get_put all parent (with_child new k))
      ∙ ap (λ r. option_map_or (λ (c : Component). c.children) r [] ++ new ∷ []) (sym holder.1))
      (ap (λ r. option_map_or (λ (c : Component). c.children) r []) get_new)
      (λ q apart ne. ap (λ r. option_map_or (λ (c : Component). c.children) r []) (get_old q ne ∙ get_beside all parent (with_child new k) q apart))

  each : (P : ℕ → Component → Type 0) → P new n → P parent (with_child new k) → Each all P → Each after P
  each P fresh changed were q = elim (cases_eq q new) [
    | inl e ↦ subst (λ (i : ℕ). IfSome (map.get after i) (P i)) (sym e) (subst (λ (r : Option Component). IfSome r (P new)) (sym get_new) fresh)
    | inr ne ↦ subst (λ (r : Option Component). IfSome r (P q)) (sym (get_old q ne)) (each_put all parent k (with_child new k) holder.1 P changed were q)
  ]

  abbrev was : (P : ℕ → Component → Type 0) → Each all P → P parent k
  was P were = was_put all parent k k holder.1 P were

  name_new : name_of after new ≡ name
  name_new = ap (λ r. option_map_or (λ (c : Component). c.name) r []) get_new

  name_old : (q : ℕ) → q ≢ new → name_of after q ≡ name_of all q
  name_old q ne = same (λ r. option_map_or (λ (c : Component). c.name) r []) refl q ne

  some_one : {A : Type 0} (x y : A) → ◌≡◌ {A = Option A} (Some x) (Some y) → x ≡ y
  some_one x y e = cc

  -- a child that is not the new one was one before
  old_child : (q x : ℕ) → In x (children_of after q) → x ≢ new → In x (children_of all q)
  old_child q x h ne =
      let up : parent_of after x ≡ Some q = in_child (is_live after) (parent_of after) (children_of after) grown x q h in
      in_from (children_of all q) x (tree.up x q (sym (same (option_and_then (λ (c : Component). c.parent)) refl x ne) ∙ up))

  -- no child beside the new one has its name
  not_named : (q y : ℕ) → In new (children_of after q) → In y (children_of after q) → y ≢ new → bytes_eq (name_of all y) name ≡ false
  not_named q y h g ne =
      let up : parent_of after new ≡ Some q = in_child (is_live after) (parent_of after) (children_of after) grown new q h in
      let same_parent : parent ≡ q = some_one parent q (sym (ap (option_and_then (λ (c : Component). c.parent)) get_new) ∙ up) in
      any_false (λ child. bytes_eq (name_of all child) name) (children_of all parent) not_taken y (subst (λ (p : ℕ). In y (children_of all p)) (sym same_parent) (old_child q y g ne))

  siblings : (q : ℕ) → IsDistinct bytes_eq (map_list (name_of after) (children_of after q))
  siblings q = names_differ (name_of after) (children_of after q) (once_from (children_of after q) (grown.once q)) apart
    where
      apart : (x y : ℕ) → In x (children_of after q) → In y (children_of after q) → x ≢ y → bytes_eq (name_of after x) (name_of after y) ≡ false
      apart x y h g ne = elim (cases_eq x new) [
        | inl e ↦
            let beside : y ≢ new = λ d. ne (e ∙ sym d) in
            ap (λ (s : List ℕ). bytes_eq s (name_of after y)) (ap (name_of after) e ∙ name_new) ∙ ap (bytes_eq name) (name_old y beside)
            ∙ turned_bytes (name_of all y) name (not_named q y (subst (λ (z : ℕ). In z (children_of after q)) e h) g beside)
        | inr out ↦ elim (cases_eq y new) [
          | inl d ↦
              ap (λ (s : List ℕ). bytes_eq s (name_of after y)) (name_old x out) ∙ ap (bytes_eq (name_of all x)) (ap (name_of after) d ∙ name_new)
              ∙ not_named q x (subst (λ (z : ℕ). In z (children_of after q)) d g) h out
          | inr also ↦
              ap (λ (s : List ℕ). bytes_eq s (name_of after y)) (name_old x out) ∙ ap (bytes_eq (name_of all x)) (name_old y also)
              ∙ names_apart (name_of all) (children_of all q) (siblings_from all (name_of all) whole.formed.siblings q) x y (old_child q x h out) (old_child q y g also) ne
        ]
      ]

  creatable : IsTrue (is_creatable m class)
  creatable = creatable_class m code class other.0 other.1

  new_values : Fits m.fields (m.fields class) (m.initial class) n.contents
  new_values =
      let o = with_slots m (zip (config_slots m class) values) (new_object m class) in
      let is = slots_fit m stored (zip (config_slots m class) values) (new_object m class) (made class creatable) (config_may m class values of) in
      subst (λ (i : ℕ). Fits m.fields (m.fields i) (m.initial i) o.contents) (class_kept m (zip (config_slots m class) values) (new_object m class)) is.fits

  app_stays : IsSomeAnd (map.get after 0) (IsApp m)
  app_stays =
      subst (λ (r : Option Component). IsSomeAnd r (IsApp m)) (sym (get_old 0 (live_apart 0 tree.app)))
      (app_put all parent k (with_child new k) holder.1 m whole.formed.app (λ e is. record { class = is.class; name = is.name; parent = is.parent }))

  few_ids : Each after (λ q c. q < most_components)
  few_ids = each (λ q c. q < most_components) (least_is_free all room).1 (was (λ q c. q < most_components) whole.ids) whole.ids

  pub whole_added : Whole m (record { components = record { by_id = after; statics = a.components.statics; limit = a.components.limit }; links = a.links })
  whole_added = record {
    formed = record {
      tree = tree_rooted after grown;
      app = app_stays;
      others = each (λ q c. 0 < q → IsOther m c) (λ lt. record { component = other.0; concrete = other.1 })
          (λ lt. let o = was (λ q c. 0 < q → IsOther m c) whole.formed.others lt in record { component = o.component; concrete = o.concrete }) whole.formed.others;
      names = each (λ q c. IsTrue (is_name c.name)) named (was (λ q c. IsTrue (is_name c.name)) whole.formed.names) whole.formed.names;
      siblings = siblings_to after (name_of after) siblings;
      links = λ i d lt.
          let is = whole.formed.links i d lt in
          link_with_classes m all after _ (same (option_map (λ (c : Component). c.class)) refl _ (live_apart _ is.from)) (same (option_map (λ (c : Component). c.class)) refl _ (live_apart _ is.to)) is;
      order = whole.formed.order;
      values = each (λ q c. Fits m.fields (m.fields c.class) (m.initial c.class) c.contents) new_values (was (λ q c. Fits m.fields (m.fields c.class) (m.initial c.class) c.contents) whole.formed.values) whole.formed.values;
      faults = each (λ q c. c.fault ≤ 5) (omega arith) (was (λ q c. c.fault ≤ 5) whole.formed.faults) whole.formed.faults;
      statics = whole.formed.statics;
      ids = ids_end after few_ids;
    };
    ids = few_ids;
    link_count = whole.link_count;
    depths = tree_depths after grown;
    children = each (λ q c. length c.children ≤ most_children) (omega arith)
        (let long = length-append k.children (new ∷ []) in
        let here : children_of all parent ≡ k.children = ap (λ r. option_map_or (λ (c : Component). c.children) r []) holder.1 in
        let less : length k.children < most_children = subst (λ (ids : List ℕ). length ids < most_children) here few in
        omega arith) whole.children;
    links_at_each = whole.links_at_each;
    data_sizes =
        let f : Component → ℕ = λ c. m.data_size c.class in
        let gone : map.get mid new ≡ None = get_beside all parent (with_child new k) new (λ e. live_apart parent live (sym e)) ∙ not_there in
        let more : total f after ≡ total f mid + f n = ap (total f) after_is ∙ total_more f mid new n gone in
        let equal : total f mid ≡ total f all = total_over f all parent k (with_child new k) holder.1 refl in
        let enough = fits in
        omega arith;
    least_limit = whole.least_limit;
    most_limit = whole.most_limit;
  }

-- ---- an add

less_of : (n k : ℕ) → nat_le k n ≡ false → n < k
less_of n k h = grind (arith, nat_tests)

most_of : (n k : ℕ) → nat_lt k n ≡ false → n ≤ k
most_of n k h = grind (arith, nat_tests)

module _ (m : Meaning) (code : IsWhole m) (stored : (o : Object) (slot : ℕ) (v : Value) → IsObject m o → IsTrue (may_store m o.class slot v) → IsObject m (with_slot m o slot v))
    (made : (class : ℕ) → IsTrue (is_creatable m class) → IsObject m (new_object m class))
    (a : Application) (whole : Whole m a) (parent kit number : ℕ) (name config : List ℕ) (turns : ℕ) (moment : ℤ) (bytes : IsTrue (are_bytes config))
    (none : first_refusal (refusals_of_add m a.components parent kit number name config) ≡ None) where
  rows : AllFalse (refusals_of_add m a.components parent kit number name config)
  rows = all_false (refusals_of_add m a.components parent kit number name config) none

  not_true : (b : Bool) → b ≡ false → IsTrue (not b)
  not_true false h = refl
  not_true true h = absurd cc

  of_class : (r : Option ℕ) → class_numbered m.schema.classes kit number ≡ r
      → option_map_or (λ class. not (is_for_components m class)) r true ≡ false → option_map_or (is_abstract_class m) r false ≡ false
      → are_bad_values (option_map_or (config_types m) r []) config ≡ false → have_long_buffer (option_map_or (config_types m) r []) config ≡ false
      → option_map_or (λ class. nat_lt a.components.limit (data_size_of m a.components.by_id + m.data_size class)) r false ≡ false
      → Whole m (over a (after_add m a.components parent (option_map_or (λ class. class) r 0) name config turns moment).left)
  of_class None at typed concrete good short fits = absurd (let no : true ≡ false = typed in cc)
  of_class (Some class) at typed concrete good short fits =
      whole_run m code
      (over a (with_components a.components (added m a.components.by_id (least_free a.components.by_id) parent class name (taken (config_types m class) config))))
      (whole_added m code stored made a whole parent class name (taken (config_types m class) config)
      (not_false (is_live a.components.by_id parent) rows.0) (not_false (is_for_components m class) typed, not_true (is_abstract_class m class) concrete)
      (not_false (is_name name) rows.1.1.1.0) rows.1.1.1.1.0
      (less_of (length (children_of a.components.by_id parent)) most_children rows.1.1.1.1.1.0)
      (less_of (depth a.components.by_id parent) 16 rows.1.1.1.1.1.1.0)
      (less_of (map.len a.components.by_id) most_components rows.1.1.1.1.1.1.1.0)
      (taken_are (config_types m class) config bytes good short)
      (most_of (data_size_of m a.components.by_id + m.data_size class) a.components.limit fits))
      (least_free a.components.by_id) (Callback Start) (callback_argument Start 0) turns moment

  pub whole_add : Whole m (over a (after_add m a.components parent (class_or_none m kit number) name config turns moment).left)
  whole_add =
      of_class (class_numbered m.schema.classes kit number) refl rows.1.0 rows.1.1.0 rows.1.1.1.1.1.1.1.1.0 rows.1.1.1.1.1.1.1.1.1.0 rows.1.1.1.1.1.1.1.1.1.1.0
