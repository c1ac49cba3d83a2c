-- A whole application in which one component has other values and another fault stays whole.
use Rattle.std.proofs.Common.{ℕ, ◌≡◌, ◌<◌, ◌≤◌, inl, inr, refl, sym, ◌∙◌, ap, subst}
use Rattle.std.specs.Prelude.{Option, Some, None, IfSome, IsSomeAnd, IsTrue, is_some, List, [], length, map as map_list}
use Rattle.std.specs.Option.{option_and_then, option_map_or}
use Rattle.std.specs.List.{IsDistinct}
use Rattle.std.specs.Str.{bytes_eq}
use Rattle.std.specs.FinMap as map
use Rattle.std.proofs.lemmas.Bool.{cases_eq}
use Rattle.sed_value.specs.Names.{is_name}
use Rattle.sed_typed.specs.Contents.{Contents}
use Rattle.sed_engine.specs.Code.{Meaning, property_type, slot_form}
use Rattle.sed_engine.specs.Fits.{Fits}
use Rattle.sub_table.specs.Link.{Link}
use Rattle.comp_tree.specs.Application.{Application, ById, Component, children_of, is_live, most_children, most_components, name_of, parent_of, type_at}
use Rattle.comp_tree.specs.Whole.{Each, IsApp, IsLink, IsOther, Whole}
use Rattle.comp_tree.proofs.MapLemmas.{get_beside, get_put}
use Rattle.comp_tree.proofs.WithinLimits.{tree_of}
use Rattle.sed_value.proofs.Maps.{total_over}
use Rattle.app_file.proofs.Trees.{IsTreeOf, ids_end, same_tree, tree_depths, tree_rooted}

-- what is said of each component, of the one that stands there
pub here : (P : Component → Type 0) (r : Option Component) (c : Component) → r ≡ Some c → IfSome r P → P c
here P r c is h = subst (λ (r : Option Component). IfSome r P) is h

pub some_is : (r : Option Component) (P : Component → Type 0) → IsSomeAnd r P → (c : Component) × (r ≡ Some c) × P c
some_is None P never = absurd never
some_is (Some c) P h = (c, refl, h)

-- another component in the place of one
module _ (all : ById) (id : ℕ) (c d : Component) (there : map.get all id ≡ Some c) where
  -- what is read off it the same as before is the same of each
  pub same_put : {A : Type 0} (F : Option Component → A) → F (Some d) ≡ F (Some c) → (q : ℕ) → F (map.get (map.insert all id d) q) ≡ F (map.get all q)
  same_put F is q = elim (cases_eq q id) [
    | inl e ↦
        ap (λ (k : ℕ). F (map.get (map.insert all id d) k)) e ∙ ap F (get_put all id d) ∙ is ∙ ap F (sym there)
        ∙ ap (λ (k : ℕ). F (map.get all k)) (sym e)
    | inr ne ↦ ap F (get_beside all id d q ne)
  ]

  -- what is said of it and was said of the others is said of each
  pub each_put : (P : ℕ → Component → Type 0) → P id d → Each all P → Each (map.insert all id d) P
  each_put P new were q = elim (cases_eq q id) [
    | inl e ↦
        subst (λ (k : ℕ). IfSome (map.get (map.insert all id d) k) (P k)) (sym e)
        (subst (λ (r : Option Component). IfSome r (P id)) (sym (get_put all id d)) new)
    | inr ne ↦ subst (λ (r : Option Component). IfSome r (P q)) (sym (get_beside all id d q ne)) (were q)
  ]

  -- what was said of each, of the one
  pub was_put : (P : ℕ → Component → Type 0) → Each all P → P id c
  was_put P were = here (P id) (map.get all id) c there (were id)

  pub app_put : (m : Meaning) → IsSomeAnd (map.get all 0) (IsApp m) → (id ≡ 0 → IsApp m c → IsApp m d) → IsSomeAnd (map.get (map.insert all id d) 0) (IsApp m)
  app_put m was keeps = elim (cases_eq 0 id) [
    | inl e ↦
        let app = some_is (map.get all 0) (IsApp m) was in
        let one : app.0 ≡ c = some_one app.0 c (sym app.1 ∙ ap (map.get all) e ∙ there) in
        subst (λ (k : ℕ). IsSomeAnd (map.get (map.insert all id d) k) (IsApp m)) (sym e)
        (subst (λ (r : Option Component). IsSomeAnd r (IsApp m)) (sym (get_put all id d)) (keeps (sym e) (subst (IsApp m) one app.2)))
    | inr ne ↦ subst (λ (r : Option Component). IsSomeAnd r (IsApp m)) (sym (get_beside all id d 0 ne)) was
  ]
    where
      some_one : (x y : Component) → ◌≡◌ {A = Option Component} (Some x) (Some y) → x ≡ y
      some_one x y e = cc

module _ (m : Meaning) (a : Application) (whole : Whole m a) (id : ℕ) (c d : Component) (there : map.get a.components.by_id id ≡ Some c)
    (class : d.class ≡ c.class) (name : d.name ≡ c.name) (parent : d.parent ≡ c.parent) (children : d.children ≡ c.children)
    (values : Fits m.fields (m.fields d.class) (m.initial d.class) d.contents) (fault : d.fault ≤ 5)
    (statics : Contents) (fits : Fits m.fields m.static_fields m.initial_statics statics) where
  abbrev all : ById
  all = a.components.by_id

  abbrev after : ById
  after = map.insert a.components.by_id id d

  abbrev same : {A : Type 0} (F : Option Component → A) → F (Some d) ≡ F (Some c) → (q : ℕ) → F (map.get after q) ≡ F (map.get all q)
  same F is q = same_put all id c d there F is q

  abbrev each : (P : ℕ → Component → Type 0) → P id d → Each all P → Each after P
  each P new were = each_put all id c d there P new were

  live_same : (q : ℕ) → is_live after q ≡ is_live all q
  live_same q = same is_some refl q

  children_same : (q : ℕ) → children_of after q ≡ children_of all q
  children_same q = same (λ r. option_map_or (λ (c : Component). c.children) r []) children q

  parent_same : (q : ℕ) → parent_of after q ≡ parent_of all q
  parent_same q = same (λ r. option_and_then (λ (c : Component). c.parent) r) parent q

  name_same : (q : ℕ) → name_of after q ≡ name_of all q
  name_same q = same (λ r. option_map_or (λ (c : Component). c.name) r []) name q

  type_same : (q slot : ℕ) → type_at m after q slot ≡ type_at m all q slot
  type_same q slot = ap property_type (same (λ r. option_and_then (λ (c : Component). slot_form m c.class slot) r) (ap (λ (k : ℕ). slot_form m k slot) class) q)

  tree : IsTreeOf after
  tree = same_tree all after live_same parent_same children_same (tree_of m a whole)

  link_same : (l : Link) → IsLink m all l → IsLink m after l
  link_same l is = record {
    from = live_same l.from ∙ is.from;
    to = live_same l.to ∙ is.to;
    typed = rw (type_same l.from l.from_slot, type_same l.to l.to_slot) is.typed;
  }

  app_same : IsApp m c → IsApp m d
  app_same is = record { class = is.class ∙ ap Some (sym class); name = name ∙ is.name; parent = parent ∙ is.parent }

  other_same : IsOther m c → IsOther m d
  other_same is = record { component = rw class is.component; concrete = rw class is.concrete }

  app_there : IsSomeAnd (map.get after 0) (IsApp m)
  app_there = app_put all id c d there m whole.formed.app (λ e is. app_same is)

  -- of the component that stands there
  abbrev now : (P : ℕ → Component → Type 0) → Each all P → P id c
  now P were = was_put all id c d there P were

  few_ids : Each after (λ q c. q < most_components)
  few_ids = each (λ q c. q < most_components) (now (λ q c. q < most_components) whole.ids) whole.ids

  pub whole_put : Whole m (record { components = record { by_id = after; statics = statics; limit = a.components.limit }; links = a.links })
  whole_put = record {
    formed = record {
      tree = tree_rooted after tree;
      app = app_there;
      others = each (λ q c. 0 < q → IsOther m c) (λ lt. other_same (now (λ q c. 0 < q → IsOther m c) whole.formed.others lt)) whole.formed.others;
      names = each (λ q c. IsTrue (is_name c.name)) (subst (λ (n : List ℕ). IsTrue (is_name n)) (sym name) (now (λ q c. IsTrue (is_name c.name)) whole.formed.names)) whole.formed.names;
      siblings = subst (λ (names : ℕ → List ℕ). Each after (λ q c. IsDistinct bytes_eq (map_list names c.children))) (λ i q. sym (name_same q) i)
          (each (λ q c. IsDistinct bytes_eq (map_list (name_of all) c.children))
          (subst (λ (ids : List ℕ). IsDistinct bytes_eq (map_list (name_of all) ids)) (sym children) (now (λ q c. IsDistinct bytes_eq (map_list (name_of all) c.children)) whole.formed.siblings))
          whole.formed.siblings);
      links = λ k e lt. link_same _ (whole.formed.links k e lt);
      order = whole.formed.order;
      values = each (λ q c. Fits m.fields (m.fields c.class) (m.initial c.class) c.contents) values whole.formed.values;
      faults = each (λ q c. c.fault ≤ 5) fault whole.formed.faults;
      statics = fits;
      ids = ids_end after few_ids;
    };
    ids = few_ids;
    link_count = whole.link_count;
    depths = tree_depths after tree;
    children = each (λ q c. length c.children ≤ most_children) (subst (λ (ids : List ℕ). length ids ≤ most_children) (sym children) (now (λ q c. length c.children ≤ most_children) whole.children)) whole.children;
    links_at_each = whole.links_at_each;
    data_sizes = subst (λ (n : ℕ). n ≤ a.components.limit) (sym (total_over (λ (c : Component). m.data_size c.class) all id c d there (ap m.data_size (sym class)))) whole.data_sizes;
    least_limit = whole.least_limit;
    most_limit = whole.most_limit;
  }
