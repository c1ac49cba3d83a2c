-- What a rename and a reorder leave of a whole application.
use Rattle.std.proofs.Common.{ℕ, ◌≡◌, ◌≢◌, ◌<◌, ◌≤◌, Bool, true, false, inl, inr, refl, sym, ◌∙◌, ap, subst, arith}
use Rattle.std.specs.Prelude.{Option, Some, None, IfSome, IsTrue, is_some, not, ◌==◌, ◌&&◌, ◌||◌, List, [], ◌∷◌, length, map as map_list}
use Rattle.std.specs.Option.{option_and_then, option_map_or}
use Rattle.std.specs.List.{IsDistinct, list_any}
use Rattle.std.specs.Str.{bytes_eq}
use Rattle.std.specs.FinMap as map
use Rattle.std.proofs.lemmas.Bool.{cases_eq}
use Rattle.std.proofs.lemmas.Bool.Decides.{nat_tests}
use Rattle.sed_value.specs.Names.{is_name}
use Rattle.sed_engine.specs.Code.{Meaning, property_type, slot_form}
use Rattle.sed_engine.specs.Fits.{Fits}
use Rattle.sub_table.specs.Link.{Link}
use Rattle.comp_tree.specs.Application.{Application, ById, Component, children_of, is_live, most_children, most_components, name_of, parent_of, type_at}
use Rattle.comp_tree.specs.Edit.{over}
use Rattle.comp_tree.specs.Edits.{after_rename, after_reorder, with_children, with_name}
use Rattle.comp_tree.specs.Refusals.{are_each_once, are_the_children, first_refusal, ids_of, refusals_of_rename, refusals_of_reorder}
use Rattle.comp_tree.specs.Shape.{IsTree}
use Rattle.comp_tree.specs.Whole.{Each, IsLink, IsOther, Whole}
use Rattle.comp_tree.proofs.MapLemmas.{get_beside, get_put}
use Rattle.comp_tree.proofs.ShapeLemmas.{In, in_to, once_from}
use Rattle.comp_tree.proofs.ShapeSteps.{Reordered, reordered, tree_reordered}
use Rattle.sed_value.proofs.Maps.{total_over}
use Rattle.app_file.proofs.Names.{names_apart, names_differ, names_once, turned_bytes}
use Rattle.app_file.proofs.PutComponents.{app_put, each_put, same_put, was_put}
use Rattle.app_file.proofs.Refused.{AllFalse, all_false, not_false}
use Rattle.app_file.proofs.Trees.{IsTreeOf, ids_end, same_tree, tree_depths, tree_rooted}
use Rattle.comp_tree.proofs.WithinLimits.{tree_of}

-- ---- siblings, by the children of each id

pub siblings_to : (all : ById) (names : ℕ → List ℕ) → ((q : ℕ) → IsDistinct bytes_eq (map_list names (children_of all q))) → Each all (λ q c. IsDistinct bytes_eq (map_list names c.children))
siblings_to all names each q = by_component (map.get all q) (each q)
  where
    by_component : (o : Option Component) → IsDistinct bytes_eq (map_list names (option_map_or (λ (c : Component). c.children) o [])) → IfSome o (λ (c : Component). IsDistinct bytes_eq (map_list names c.children))
    by_component None distinct = tt {0}
    by_component (Some c) distinct = distinct

pub siblings_from : (all : ById) (names : ℕ → List ℕ) → Each all (λ q c. IsDistinct bytes_eq (map_list names c.children)) → (q : ℕ) → IsDistinct bytes_eq (map_list names (children_of all q))
siblings_from all names each q = by_component (map.get all q) (each q)
  where
    by_component : (o : Option Component) → IfSome o (λ (c : Component). IsDistinct bytes_eq (map_list names c.children)) → IsDistinct bytes_eq (map_list names (option_map_or (λ (c : Component). c.children) o []))
    by_component None each = names_differ names [] tt (λ x y never k ne. absurd never)
    by_component (Some c) distinct = distinct

-- ---- another name, or another order of children

module _ (m : Meaning) (a : Application) (whole : Whole m a) (id : ℕ) (c d : Component) (there : map.get a.components.by_id id ≡ Some c)
    (class : d.class ≡ c.class) (parent : d.parent ≡ c.parent) (contents : d.contents ≡ c.contents) (fault : d.fault ≡ c.fault)
    (app_name : id ≡ 0 → d.name ≡ c.name) (named : IsTrue (is_name d.name)) (few : length d.children ≤ most_children)
    (tree : IsTreeOf (map.insert a.components.by_id id d))
    (siblings : (q : ℕ) → IsDistinct bytes_eq (map_list (name_of (map.insert a.components.by_id id d)) (children_of (map.insert a.components.by_id id d) q))) where
  abbrev all : ById
  all = a.components.by_id

  abbrev after : ById
  after = map.insert a.components.by_id id d

  live_same : (q : ℕ) → is_live after q ≡ is_live all q
  live_same q = same_put all id c d there is_some refl q

  type_same : (q slot : ℕ) → type_at m after q slot ≡ type_at m all q slot
  type_same q slot = ap property_type (same_put all id c d there (λ r. option_and_then (λ (c : Component). slot_form m c.class slot) r) (ap (λ (k : ℕ). slot_form m k slot) class) q)

  link_same : (l : Link) → IsLink m all l → IsLink m after l
  link_same l is = record {
    from = live_same l.from ∙ is.from;
    to = live_same l.to ∙ is.to;
    typed = rw (type_same l.from l.from_slot, type_same l.to l.to_slot) is.typed;
  }

  other_same : IsOther m c → IsOther m d
  other_same is = record { component = rw class is.component; concrete = rw class is.concrete }

  abbrev each : (P : ℕ → Component → Type 0) → P id d → Each all P → Each after P
  each P new were = each_put all id c d there P new were

  abbrev was : (P : ℕ → Component → Type 0) → Each all P → P id c
  was P were = was_put all id c d there P were

  values_same : Fits m.fields (m.fields c.class) (m.initial c.class) c.contents → Fits m.fields (m.fields d.class) (m.initial d.class) d.contents
  values_same fits = rw (class, contents) fits

  few_ids : Each after (λ q c. q < most_components)
  few_ids = each (λ q c. q < most_components) (was (λ q c. q < most_components) whole.ids) whole.ids

  pub whole_node : Whole m (record { components = record { by_id = after; statics = a.components.statics; limit = a.components.limit }; links = a.links })
  whole_node = record {
    formed = record {
      tree = tree_rooted after tree;
      app = app_put all id c d there m whole.formed.app (λ e is. record { class = is.class ∙ ap Some (sym class); name = app_name e ∙ is.name; parent = parent ∙ is.parent });
      others = each (λ q c. 0 < q → IsOther m c) (λ lt. other_same (was (λ q c. 0 < q → IsOther m c) whole.formed.others lt)) whole.formed.others;
      names = each (λ q c. IsTrue (is_name c.name)) named whole.formed.names;
      siblings = siblings_to after (name_of after) siblings;
      links = λ k e lt. link_same _ (whole.formed.links k e lt);
      order = whole.formed.order;
      values = each (λ q c. Fits m.fields (m.fields c.class) (m.initial c.class) c.contents) (values_same (was (λ q c. Fits m.fields (m.fields c.class) (m.initial c.class) c.contents) whole.formed.values)) whole.formed.values;
      faults = each (λ q c. c.fault ≤ 5) (subst (λ (n : ℕ). n ≤ 5) (sym fault) (was (λ q c. c.fault ≤ 5) whole.formed.faults)) whole.formed.faults;
      statics = whole.formed.statics;
      ids = ids_end after few_ids;
    };
    ids = few_ids;
    link_count = whole.link_count;
    depths = tree_depths after tree;
    children = each (λ q c. length c.children ≤ most_children) few whole.children;
    links_at_each = whole.links_at_each;
    data_sizes = subst (λ (n : ℕ). n ≤ a.components.limit) (sym (total_over (λ (c : Component). m.data_size c.class) all id c d there (ap m.data_size (sym class)))) whole.data_sizes;
    least_limit = whole.least_limit;
    most_limit = whole.most_limit;
  }

-- ---- a rename

pub any_false : (p : ℕ → Bool) (xs : List ℕ) → list_any p xs ≡ false → (x : ℕ) → In x xs → p x ≡ false
any_false p [] none x never = absurd never
any_false p (y ∷ xs) none x h = by_test (p y) refl none h (any_false p xs)
  where
    by_test : (b : Bool) → p y ≡ b → (b || list_any p xs) ≡ false → In x (y ∷ xs) → (list_any p xs ≡ false → (x : ℕ) → In x xs → p x ≡ false) → p x ≡ false
    by_test true is none h more = absurd (let never : true ≡ false = none in cc)
    by_test false is none (inl e) more = ap p e ∙ is
    by_test false is none (inr k) more = more none x k

other_name : (x id : ℕ) (same : Bool) → (not (x == id) && same) ≡ false → x ≢ id → same ≡ false
other_name x id same row ne = by_test (x == id) refl row
  where
    by_test : (b : Bool) → (x == id) ≡ b → (not b && same) ≡ false → same ≡ false
    by_test false is row = row
    by_test true is row = absurd (let yes : x ≡ id = grind (arith, nat_tests) in ne yes)

module _ (m : Meaning) (a : Application) (whole : Whole m a) (id : ℕ) (name : List ℕ) (none : first_refusal (refusals_of_rename a.components.by_id id name) ≡ None) where
  abbrev old : ById
  old = a.components.by_id

  table : AllFalse (refusals_of_rename old id name)
  table = all_false (refusals_of_rename old id name) none

  module _ (c : Component) (there : map.get old id ≡ Some c) where
    abbrev new : ById
    new = map.insert old id (with_name name c)

    name_here : name_of new id ≡ name
    name_here = ap (λ r. option_map_or (λ (c : Component). c.name) r []) (get_put old id (with_name name c))

    name_beside : (q : ℕ) → q ≢ id → name_of new q ≡ name_of old q
    name_beside q ne = ap (λ r. option_map_or (λ (c : Component). c.name) r []) (get_beside old id (with_name name c) q ne)

    children_same : (q : ℕ) → children_of new q ≡ children_of old q
    children_same q = same_put old id c (with_name name c) there (λ r. option_map_or (λ (c : Component). c.children) r []) refl q

    -- no sibling has the name
    none_named : (q y : ℕ) → In id (children_of old q) → In y (children_of old q) → y ≢ id → bytes_eq (name_of old y) name ≡ false
    none_named q y h k ne =
        let up : parent_of old id ≡ Some q = whole.formed.tree.down id q (in_to (children_of old q) id h) in
        let row = sym (ap (λ r. option_map_or (λ (parent : ℕ). list_any (λ child. not (child == id) && bytes_eq (name_of old child) name) (children_of old parent)) r false) up) ∙ table.1.1.0 in
        other_name y id (bytes_eq (name_of old y) name) (any_false (λ child. not (child == id) && bytes_eq (name_of old child) name) (children_of old q) row y k) ne

    apart : (q x y : ℕ) → In x (children_of old q) → In y (children_of old q) → x ≢ y → bytes_eq (name_of new x) (name_of new y) ≡ false
    apart q x y h k ne = elim (cases_eq x id) [
      | inl e ↦
          let other : y ≢ id = λ d. ne (e ∙ sym d) in
          ap (λ (n : List ℕ). bytes_eq n (name_of new y)) (ap (name_of new) e ∙ name_here) ∙ ap (bytes_eq name) (name_beside y other)
          ∙ turned_bytes (name_of old y) name (none_named q y (subst (λ (z : ℕ). In z (children_of old q)) e h) k other)
      | inr out ↦ elim (cases_eq y id) [
        | inl d ↦
            ap (λ (n : List ℕ). bytes_eq n (name_of new y)) (name_beside x out) ∙ ap (bytes_eq (name_of old x)) (ap (name_of new) d ∙ name_here)
            ∙ none_named q x (subst (λ (z : ℕ). In z (children_of old q)) d k) h out
        | inr also ↦
            ap (λ (n : List ℕ). bytes_eq n (name_of new y)) (name_beside x out) ∙ ap (bytes_eq (name_of old x)) (name_beside y also)
            ∙ names_apart (name_of old) (children_of old q) (siblings_from old (name_of old) whole.formed.siblings q) x y h k ne
      ]
    ]

    siblings : (q : ℕ) → IsDistinct bytes_eq (map_list (name_of new) (children_of new q))
    siblings q =
        subst (λ (ids : List ℕ). IsDistinct bytes_eq (map_list (name_of new) ids)) (sym (children_same q))
        (names_differ (name_of new) (children_of old q) (names_once (name_of old) (children_of old q) (siblings_from old (name_of old) whole.formed.siblings q)) (apart q))

    tree : IsTreeOf new
    tree =
        same_tree old new (λ q. same_put old id c (with_name name c) there is_some refl q)
        (λ q. same_put old id c (with_name name c) there (λ r. option_and_then (λ (c : Component). c.parent) r) refl q) children_same (tree_of m a whole)

    not_app : id ≡ 0 → name ≡ c.name
    not_app e = absurd (let yes : (id == 0) ≡ true = grind (arith, nat_tests) in let never : true ≡ false = sym yes ∙ table.1.1.1.0 in cc)

    renamed : Whole m (record { components = record { by_id = new; statics = a.components.statics; limit = a.components.limit }; links = a.links })
    renamed =
        whole_node m a whole id c (with_name name c) there refl refl refl refl not_app (not_false (is_name name) table.1.0)
        (was_put old id c c there (λ q c. length c.children ≤ most_children) whole.children) tree siblings

  by_component : (o : Option Component) → map.get old id ≡ o
      → Whole m (over a (record { by_id = option_map_or (λ (c : Component). map.insert old id (with_name name c)) o old; statics = a.components.statics; limit = a.components.limit }))
  by_component None there = whole
  by_component (Some c) there = renamed c there

  pub whole_rename : Whole m (over a (after_rename a.components id name))
  whole_rename = by_component (map.get old id) refl

-- ---- a reorder

module _ (m : Meaning) (a : Application) (whole : Whole m a) (id : ℕ) (bytes : List ℕ) (none : first_refusal (refusals_of_reorder a.components.by_id id bytes) ≡ None) where
  abbrev before : ById
  before = a.components.by_id

  rows : AllFalse (refusals_of_reorder before id bytes)
  rows = all_false (refusals_of_reorder before id bytes) none

  ids_there : (r : Option (List ℕ)) → ids_of bytes ≡ r → IsTrue (option_map_or (are_each_once (children_of before id)) r false) → (ids : List ℕ) × (ids_of bytes ≡ Some ids) × (are_each_once (children_of before id) ids ≡ true)
  ids_there None at each = absurd (let never : false ≡ true = each in cc)
  ids_there (Some ids) at each = (ids, at, each)

  again : (ids : List ℕ) × (ids_of bytes ≡ Some ids) × (are_each_once (children_of before id) ids ≡ true)
  again = ids_there (ids_of bytes) refl (not_false (are_the_children before id bytes) rows.1.0)

  abbrev order : List ℕ
  order = option_map_or (λ (ids : List ℕ). ids) (ids_of bytes) []

  order_is : order ≡ again.0
  order_is = ap (λ r. option_map_or (λ (ids : List ℕ). ids) r []) again.1

  each_once : are_each_once (children_of before id) order ≡ true
  each_once = ap (are_each_once (children_of before id)) order_is ∙ again.2

  module _ (c : Component) (at : map.get before id ≡ Some c) where
    abbrev now : ById
    now = map.insert before id (with_children order c)

    children_here : children_of now id ≡ order
    children_here = ap (λ r. option_map_or (λ (c : Component). c.children) r []) (get_put before id (with_children order c))

    children_beside : (q : ℕ) → q ≢ id → children_of now q ≡ children_of before q
    children_beside q ne = ap (λ r. option_map_or (λ (c : Component). c.children) r []) (get_beside before id (with_children order c) q ne)

    name_same : (q : ℕ) → name_of now q ≡ name_of before q
    name_same q = same_put before id c (with_children order c) at (λ r. option_map_or (λ (c : Component). c.name) r []) refl q

    shuffled : Reordered (children_of before id) (children_of now id)
    shuffled =
        subst (Reordered (children_of before id)) (sym children_here)
        (reordered (children_of before id) order (once_from (children_of before id) ((tree_of m a whole).once id)) each_once)

    tree_with : IsTreeOf now
    tree_with =
        let ordered = tree_reordered (is_live before) (parent_of before) (children_of before) (tree_of m a whole) (children_of now) id shuffled children_beside in
        subst (λ (live : ℕ → Bool). IsTree live (parent_of now) (children_of now)) (λ i q. sym (same_put before id c (with_children order c) at is_some refl q) i)
        (subst (λ (parent : ℕ → Option ℕ). IsTree (is_live before) parent (children_of now)) (λ i q. sym (same_put before id c (with_children order c) at (λ r. option_and_then (λ (c : Component). c.parent) r) refl q) i) ordered)

    old_siblings : (q : ℕ) → IsDistinct bytes_eq (map_list (name_of before) (children_of before q))
    old_siblings = siblings_from before (name_of before) whole.formed.siblings

    siblings_now : (q : ℕ) → IsDistinct bytes_eq (map_list (name_of now) (children_of now q))
    siblings_now q =
        subst (λ (names : ℕ → List ℕ). IsDistinct bytes_eq (map_list names (children_of now q))) (λ i k. sym (name_same k) i)
        (elim (cases_eq q id) [
          | inl e ↦
              subst (λ (k : ℕ). IsDistinct bytes_eq (map_list (name_of before) (children_of now k))) (sym e)
              (names_differ (name_of before) (children_of now id) shuffled.once
              (λ x y h k ne. names_apart (name_of before) (children_of before id) (old_siblings id) x y (shuffled.new x h) (shuffled.new y k) ne))
          | inr ne ↦ subst (λ (ids : List ℕ). IsDistinct bytes_eq (map_list (name_of before) ids)) (sym (children_beside q ne)) (old_siblings q)
        ])

    as_many : length order ≤ most_children
    as_many =
        let long : length order ≡ length (children_of before id) = grind (arith, nat_tests, each_once) in
        let here_are : children_of before id ≡ c.children = ap (λ r. option_map_or (λ (c : Component). c.children) r []) at in
        let few = was_put before id c c at (λ q c. length c.children ≤ most_children) whole.children in
        subst (λ (n : ℕ). n ≤ most_children) (sym (long ∙ ap length here_are)) few

    reordered_whole : Whole m (record { components = record { by_id = now; statics = a.components.statics; limit = a.components.limit }; links = a.links })
    reordered_whole =
        whole_node m a whole id c (with_children order c) at refl refl refl refl (λ e. refl) (was_put before id c c at (λ q c. IsTrue (is_name c.name)) whole.formed.names)
        as_many tree_with siblings_now

  of_component : (o : Option Component) → map.get before id ≡ o
      → Whole m (over a (record { by_id = option_map_or (λ (c : Component). map.insert before id (with_children order c)) o before; statics = a.components.statics; limit = a.components.limit }))
  of_component None at = whole
  of_component (Some c) at = reordered_whole c at

  pub whole_reorder : Whole m (over a (after_reorder a.components id bytes))
  whole_reorder = of_component (map.get before id) refl
