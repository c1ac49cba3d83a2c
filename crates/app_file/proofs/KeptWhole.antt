-- What a file keeps of a whole application is whole.
use Rattle.std.proofs.Common.{ℕ, ◌≡◌, ◌<◌, ◌≤◌, ◌+◌, List, [], ◌∷◌, refl, sym, ◌∙◌, ap, subst, arith}
use Rattle.std.specs.Prelude.{Option, Some, None, IfSome, IsSomeAnd, IsTrue, T, is_some, ◌&&◌, length, map as map_list, sum_by}
use Rattle.std.specs.Option.{option_and_then, option_map, option_map_or}
use Rattle.std.specs.List.{IsDistinct}
use Rattle.std.specs.Str.{bytes_eq}
use Rattle.std.specs.FinMap as map
use Rattle.std.specs.FinMap.{is_sorted}
use Rattle.std.specs.FinMap.Entries.{below_all}
use Rattle.std.specs.Ordering.{nat_cmp, is_lt}
use Rattle.std.proofs.lemmas.List.Sums.{sum_by-cons}
use Rattle.sed_value.specs.Names.{is_name}
use Rattle.sed_engine.specs.Code.{Meaning, property_type, slot_form}
use Rattle.sed_engine.specs.Fits.{Fits}
use Rattle.sub_table.specs.Link.{Link}
use Rattle.comp_tree.specs.Application.{Application, ById, Component, children_of, data_size_of, is_live, most_children, most_components, name_of, parent_of, type_at}
use Rattle.sed_value.specs.Mapped.{on_values}
use Rattle.comp_tree.specs.Parts.{Kept, kept_by_id, kept_component, kept_contents}
use Rattle.comp_tree.specs.Whole.{Each, IsApp, IsLink, IsOther, Whole}
use Rattle.comp_tree.proofs.MapLemmas.{get-map_values}
use Rattle.comp_tree.proofs.WithinLimits.{tree_of}
use Rattle.app_file.proofs.Trees.{IsTreeOf, ids_end, same_tree, tree_depths, tree_rooted}

module _ (m : Meaning) where
  -- ---- the entries

  below_stays : (x : ℕ) (es : List (ℕ × Component)) → below_all nat_cmp x (on_values (kept_component m) es) ≡ below_all nat_cmp x es
  below_stays x [] = refl
  below_stays x (e ∷ es) = ap (λ b. is_lt (nat_cmp x e.0) && b) (below_stays x es)

  sorted_stays : (es : List (ℕ × Component)) → is_sorted nat_cmp (on_values (kept_component m) es) ≡ is_sorted nat_cmp es
  sorted_stays [] = refl
  sorted_stays (e ∷ es) =
      ap (λ b. b && is_sorted nat_cmp (on_values (kept_component m) es)) (below_stays e.0 es) ∙ ap (λ b. below_all nat_cmp e.0 es && b) (sorted_stays es)

  pub kept_entries : (all : ById) → map.entries (kept_by_id m all) ≡ on_values (kept_component m) (map.entries all)
  kept_entries all = map.entries-from_sorted nat_cmp (on_values (kept_component m) (map.entries all)) (subst T (sym (sorted_stays (map.entries all))) (map.entries_sorted all))

  sizes_stay : (es : List (ℕ × Component)) → sum_by (λ (c : Component). m.data_size c.class) (map_list (λ (e : ℕ × Component). e.1) (on_values (kept_component m) es))
      ≡ sum_by (λ (c : Component). m.data_size c.class) (map_list (λ (e : ℕ × Component). e.1) es)
  sizes_stay [] = refl
  sizes_stay (e ∷ es) =
      let size : Component → ℕ = λ c. m.data_size c.class in
      sum_by-cons size (kept_component m e.1) (map_list (λ (e : ℕ × Component). e.1) (on_values (kept_component m) es))
      ∙ ap (λ n. size e.1 + n) (sizes_stay es) ∙ sym (sum_by-cons size e.1 (map_list (λ (e : ℕ × Component). e.1) es))

  pub kept_sizes : (all : ById) → data_size_of m (kept_by_id m all) ≡ data_size_of m all
  kept_sizes all = ap (λ (es : List (ℕ × Component)). sum_by (λ (c : Component). m.data_size c.class) (map_list (λ (e : ℕ × Component). e.1) es)) (kept_entries all) ∙ sizes_stay (map.entries all)

  -- ---- each component

  module _ (all : ById) where
    abbrev after : ById
    after = kept_by_id m all

    pub kept_at : (q : ℕ) → map.get after q ≡ option_map (kept_component m) (map.get all q)
    kept_at q = get-map_values (kept_component m) all q

    -- what is read off each component the same as before is the same
    same : {A : Type 0} (F : Option Component → A) → ((c : Component) → F (Some (kept_component m c)) ≡ F (Some c)) → (q : ℕ) → F (map.get after q) ≡ F (map.get all q)
    same F is q = ap F (kept_at q) ∙ by_component (map.get all q)
      where
        by_component : (r : Option Component) → F (option_map (kept_component m) r) ≡ F r
        by_component None = refl
        by_component (Some c) = is c

    -- what was said of each is said of each
    each : (P Q : ℕ → Component → Type 0) → ((q : ℕ) (c : Component) → map.get all q ≡ Some c → P q c → Q q (kept_component m c)) → Each all P → Each after Q
    each P Q keeps were q = subst (λ r. IfSome r (Q q)) (sym (kept_at q)) (by_component (map.get all q) refl (were q))
      where
        by_component : (r : Option Component) → map.get all q ≡ r → IfSome r (P q) → IfSome (option_map (kept_component m) r) (Q q)
        by_component None there were = tt {0}
        by_component (Some c) there were = keeps q c there were

    live_same : (q : ℕ) → is_live after q ≡ is_live all q
    live_same q = same is_some (λ c. refl) q

    pub children_same : (q : ℕ) → children_of after q ≡ children_of all q
    children_same q = same (λ r. option_map_or (λ (c : Component). c.children) r []) (λ c. refl) q

    parent_same : (q : ℕ) → parent_of after q ≡ parent_of all q
    parent_same q = same (λ r. option_and_then (λ (c : Component). c.parent) r) (λ c. refl) q

    name_same : (q : ℕ) → name_of after q ≡ name_of all q
    name_same q = same (λ r. option_map_or (λ (c : Component). c.name) r []) (λ c. refl) q

    type_same : (q slot : ℕ) → type_at m after q slot ≡ type_at m all q slot
    type_same q slot = ap property_type (same (λ r. option_and_then (λ (c : Component). slot_form m c.class slot) r) (λ c. refl) q)

    link_same : (l : Link) → IsLink m all l → IsLink m after l
    link_same l is = record {
      from = live_same l.from ∙ is.from;
      to = live_same l.to ∙ is.to;
      typed = rw (type_same l.from l.from_slot, type_same l.to l.to_slot) is.typed;
    }

    app_same : IsSomeAnd (map.get all 0) (IsApp m) → IsSomeAnd (map.get after 0) (IsApp m)
    app_same was = subst (λ r. IsSomeAnd r (IsApp m)) (sym (kept_at 0)) (by_component (map.get all 0) was)
      where
        by_component : (r : Option Component) → IsSomeAnd r (IsApp m) → IsSomeAnd (option_map (kept_component m) r) (IsApp m)
        by_component None never = absurd never
        by_component (Some c) is = record { class = is.class; name = is.name; parent = is.parent }

  -- ---- the application

  module _ (a : Application) (whole : Whole m a) (first : Fits m.fields m.static_fields m.initial_statics m.initial_statics)
      (fits : (id : ℕ) (c : Component) → map.get a.components.by_id id ≡ Some c → Fits m.fields (m.fields c.class) (m.initial c.class) (kept_contents m c)) where
    pub kept_is_whole : Whole m (Kept m a)
    kept_is_whole =
        let all = a.components.by_id in
        let after = kept_by_id m a.components.by_id in
        let tree : IsTreeOf after = same_tree all after (live_same all) (parent_same all) (children_same all) (tree_of m a whole) in
        let few_ids : Each after (λ q c. q < most_components) = each all (λ q c. q < most_components) (λ q c. q < most_components) (λ q c there is. is) whole.ids in
        record {
          formed = record {
            tree = tree_rooted after tree;
            app = app_same all whole.formed.app;
            others = each all (λ q c. 0 < q → IsOther m c) (λ q c. 0 < q → IsOther m c) (λ q c there is lt. record { component = (is lt).component; concrete = (is lt).concrete }) whole.formed.others;
            names = each all (λ q c. IsTrue (is_name c.name)) (λ q c. IsTrue (is_name c.name)) (λ q c there is. is) whole.formed.names;
            siblings = subst (λ (names : ℕ → List ℕ). Each after (λ q c. IsDistinct bytes_eq (map_list names c.children))) (λ i q. sym (name_same all q) i)
                (each all (λ q c. IsDistinct bytes_eq (map_list (name_of all) c.children)) (λ q c. IsDistinct bytes_eq (map_list (name_of all) c.children)) (λ q c there is. is) whole.formed.siblings);
            links = λ k e lt. link_same all _ (whole.formed.links k e lt);
            order = whole.formed.order;
            values = each all (λ q c. Fits m.fields (m.fields c.class) (m.initial c.class) c.contents) (λ q c. Fits m.fields (m.fields c.class) (m.initial c.class) c.contents) (λ q c there is. fits q c there) whole.formed.values;
            faults = each all (λ q c. c.fault ≤ 5) (λ q c. c.fault ≤ 5) (λ q c there is. omega arith) whole.formed.faults;
            statics = first;
            ids = ids_end after few_ids;
          };
          ids = few_ids;
          link_count = whole.link_count;
          depths = tree_depths after tree;
          children = each all (λ q c. length c.children ≤ most_children) (λ q c. length c.children ≤ most_children) (λ q c there is. is) whole.children;
          links_at_each = whole.links_at_each;
          data_sizes = subst (λ (n : ℕ). n ≤ a.components.limit) (sym (kept_sizes all)) whole.data_sizes;
          least_limit = whole.least_limit;
          most_limit = whole.most_limit;
        }
