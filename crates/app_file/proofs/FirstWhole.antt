-- The App alone is a whole application.
use Rattle.std.proofs.Common.{ℕ, zero, ◌≡◌, ◌≢◌, ◌<◌, ◌≤◌, true, false, inl, inr, refl, sym, ◌∙◌, ap, subst, arith}
use Rattle.std.specs.Prelude.{Option, Some, None, IfSome, IsSomeAnd, IsTrue, is_some, List, [], ◌∷◌, length, map as map_list, nat_eq, sum_by}
use Rattle.std.specs.Option.{option_and_then, option_map_or}
use Rattle.std.specs.List.{Contains, IsDistinct}
use Rattle.std.specs.Str.{bytes_eq}
use Rattle.std.specs.FinMap as map
use Rattle.std.specs.Ordering.{nat_cmp}
use Rattle.std.proofs.lemmas.Bool.{cases_eq}
use Rattle.sed_value.specs.Names.{is_name}
use Rattle.sed_typed.specs.Contents.{Contents}
use Rattle.sed_typed.specs.Schemas.{type_at as class_numbered}
use Rattle.sed_typed.specs.SysTypes.{app_type}
use Rattle.sed_engine.specs.Code.{Meaning, is_creatable, new_object}
use Rattle.sed_engine.specs.Fits.{Fits}
use Rattle.sed_engine.specs.Whole.{IsObject, IsWhole}
use Rattle.comp_tree.specs.Application.{ById, Component, children_of, most_children, most_components, name_of, parent_of}
use Rattle.comp_tree.specs.Edits.{app_class, app_component, first_components}
use Rattle.comp_tree.specs.Whole.{Each, IsApp, IsOther, Whole}
use Rattle.comp_tree.proofs.MapLemmas.{get_beside, get_put}
use Rattle.comp_tree.proofs.ShapeLemmas.{in_from, once_to}
use Rattle.sed_value.proofs.Maps.{total, total_more}
use Rattle.app_file.proofs.Names.{names_differ}
use Rattle.app_file.proofs.Nodes.{siblings_to}
use Rattle.app_file.proofs.RootCalls.{app_creatable}
use Rattle.app_file.proofs.Trees.{IsTreeOf, ids_end, tree_depths, tree_rooted}

module _ (m : Meaning) (code : IsWhole m) (made : (class : ℕ) → IsTrue (is_creatable m class) → IsObject m (new_object m class))
    (statics : Contents) (limit : ℕ) (fit : Fits m.fields m.static_fields m.initial_statics statics) (room : m.data_size (app_class m) ≤ limit) (least : 1 ≤ limit) (most : limit ≤ 4194304) where
  abbrev c : Component
  c = app_component m

  abbrev all : ById
  all = map.insert map.empty 0 c

  here : map.get all 0 ≡ Some c
  here = get_put map.empty 0 c

  elsewhere : (q : ℕ) → q ≢ 0 → map.get all q ≡ None
  elsewhere q ne = get_beside map.empty 0 c q ne ∙ map.get-empty nat_cmp q

  -- what is read off the App, and where there is nothing, the same
  reads : {A : Type 0} (F : Option Component → A) (a : A) → F (Some c) ≡ a → F None ≡ a → (q : ℕ) → F (map.get all q) ≡ a
  reads F a app none q = elim (cases_eq q 0) [
    | inl e ↦ ap (λ (k : ℕ). F (map.get all k)) e ∙ ap F here ∙ app
    | inr ne ↦ ap F (elsewhere q ne) ∙ none
  ]

  no_parent : (q : ℕ) → parent_of all q ≡ None
  no_parent q = reads (option_and_then (λ (c : Component). c.parent)) None refl refl q

  no_children : (q : ℕ) → children_of all q ≡ []
  no_children q = reads (λ r. option_map_or (λ (c : Component). c.children) r []) [] refl refl q

  none_some : (x : ℕ) → ◌≡◌ {A = Option ℕ} None (Some x) → ⊥
  none_some x e = cc

  tree : IsTreeOf all
  tree = record {
    app = ap is_some here;
    root = no_parent 0;
    up = λ id above is. absurd (none_some above (sym (no_parent id) ∙ is));
    down = λ id above h. absurd (in_from [] id (subst (λ (ids : List ℕ). Contains ids id) (no_children above) h));
    once = λ above. subst (IsDistinct nat_eq) (sym (no_children above)) (once_to [] tt);
    known = λ id above is. absurd (none_some above (sym (no_parent id) ∙ is));
    within = λ id live. elim (cases_eq id 0) [
      | inl e ↦ (zero, omega arith, ap Some e)
      | inr ne ↦ absurd (let no : false ≡ true = sym (ap is_some (elsewhere id ne)) ∙ live in cc)
    ];
  }

  each : (P : ℕ → Component → Type 0) → P 0 c → Each all P
  each P app q = elim (cases_eq q 0) [
    | inl e ↦ subst (λ (k : ℕ). IfSome (map.get all k) (P k)) (sym e) (subst (λ (r : Option Component). IfSome r (P 0)) (sym here) app)
    | inr ne ↦ subst (λ (r : Option Component). IfSome r (P q)) (sym (elsewhere q ne)) (tt {0})
  ]

  numbered : (r : Option ℕ) (P : ℕ → Type 0) → IsSomeAnd r P → r ≡ Some (option_map_or (λ class. class) r 0)
  numbered None P never = absurd never
  numbered (Some class) P h = refl

  class_is : class_numbered m.schema.classes 0 app_type ≡ Some (app_class m)
  class_is = numbered (class_numbered m.schema.classes 0 app_type) _ code.tables.names.types.app

  no_entry : {A : Type 0} (es : List A) → length es ≡ 0 → es ≡ []
  no_entry [] e = refl
  no_entry (x ∷ es) e = absurd (omega arith)

  nothing : total (λ (c : Component). m.data_size c.class) map.empty ≡ 0
  nothing =
      let none : ◌≡◌ {A = List (ℕ × Component)} (map.entries {R = nat_cmp} map.empty) [] = no_entry (map.entries {R = nat_cmp} map.empty) (sym (map.len-entries {R = nat_cmp} map.empty) ∙ map.len-empty nat_cmp Component) in
      ap (λ (es : List (ℕ × Component)). sum_by (λ (c : Component). m.data_size c.class) (map_list (λ e. e.1) es)) none

  few_ids : Each all (λ q c. q < most_components)
  few_ids = each (λ q c. q < most_components) (omega arith)

  pub whole_first : Whole m (record { components = first_components m statics limit; links = [] })
  whole_first = record {
    formed = record {
      tree = tree_rooted all tree;
      app = subst (λ (r : Option Component). IsSomeAnd r (IsApp m)) (sym here) (record { class = class_is; name = refl; parent = refl });
      others = each (λ q c. 0 < q → IsOther m c) (λ lt. absurd (omega (arith, lt)));
      names = each (λ q c. IsTrue (is_name c.name)) refl;
      siblings = siblings_to all (name_of all) (λ q. subst (λ (ids : List ℕ). IsDistinct bytes_eq (map_list (name_of all) ids)) (sym (no_children q)) (names_differ (name_of all) [] tt (λ x y never k ne. absurd never)));
      links = λ k d lt. absurd (omega (arith, lt));
      order = λ i j d lt few. absurd (omega (arith, few));
      values = each (λ q c. Fits m.fields (m.fields c.class) (m.initial c.class) c.contents) (made (app_class m) (app_creatable m code (app_class m) class_is)).fits;
      faults = each (λ q c. c.fault ≤ 5) (omega arith);
      statics = fit;
      ids = ids_end all few_ids;
    };
    ids = few_ids;
    link_count = omega arith;
    depths = tree_depths all tree;
    children = each (λ q c. length c.children ≤ most_children) (omega arith);
    links_at_each = λ id. omega arith;
    data_sizes = let one = total_more (λ (c : Component). m.data_size c.class) map.empty 0 c (map.get-empty nat_cmp 0) in let none = nothing in let few = room in omega arith;
    least_limit = least;
    most_limit = most;
  }
