-- What a delete leaves of a whole application.
use Rattle.std.proofs.Common.{ℕ, zero, suc, ℤ, ◌≡◌, ◌≢◌, ◌<◌, ◌≤◌, ◌⊎◌, Bool, true, false, inl, inr, refl, sym, ◌∙◌, ap, subst, arith, get_or}
use Rattle.std.specs.Prelude.{Option, Some, None, IfSome, IsSomeAnd, IsTrue, is_some, not, ◌==◌, ◌||◌, List, [], ◌∷◌, ◌++◌, filter, length, map as map_list}
use Rattle.std.specs.Option.{option_and_then, option_map, option_map_or}
use Rattle.std.specs.List.{All, IsDistinct, list_any}
use Rattle.std.specs.Str.{bytes_eq}
use Rattle.std.specs.FinMap as map
use Rattle.std.specs.FinMap.{FinMap}
use Rattle.std.specs.Cmp.{nat_cmp_total}
use Rattle.std.specs.Ordering.{nat_cmp}
use Rattle.std.proofs.lemmas.Bool.{cases_eq}
use Rattle.std.proofs.lemmas.Bool.Decides.{nat_tests}
use Rattle.std.proofs.lemmas.List.{append_assoc}
use Rattle.std.proofs.lemmas.List.Elements.{All-filter}
use Rattle.std.proofs.lemmas.List.Filters.{length-filter_both}
use Rattle.sed_value.specs.Names.{is_name}
use Rattle.sed_engine.specs.declared.call.Callback.TheVariants.{Stop}
use Rattle.sed_engine.specs.Code.{Meaning}
use Rattle.sed_engine.specs.Fits.{Fits}
use Rattle.sed_engine.specs.Whole.{IsWhole}
use Rattle.sub_table.specs.Link.{Link}
use Rattle.sub_table.specs.Links.{AreInOrder, links_at, without_links_at}
use Rattle.comp_tree.specs.Application.{Application, ById, Component, Components, change_at, children_of, is_live, most_children, most_components, name_of, parent_of}
use Rattle.comp_tree.specs.Calls.{call_each}
use Rattle.comp_tree.specs.Edits.{after_delete, removed, without_all, without_child}
use Rattle.comp_tree.specs.Order.{subtree}
use Rattle.comp_tree.specs.Refusals.{first_refusal, refusals_of_delete}
use Rattle.comp_tree.specs.Shape.{down_by, up_by}
use Rattle.comp_tree.specs.Whole.{Each, IsApp, IsLink, IsOther, Whole}
use Rattle.comp_tree.proofs.DeleteLemmas.{stopped_live, stopped_subtree}
use Rattle.comp_tree.proofs.MapLemmas.{get_beside, get_put, kept_beside, taken_out}
use Rattle.comp_tree.proofs.ShapeLemmas.{In, in_child, in_from, once_from}
use Rattle.comp_tree.proofs.ShapeSteps.{at_stays, parent_live, tree_less}
use Rattle.comp_tree.proofs.SubtreeLemmas.{decide_in, down_is, get_gone, get_stays, without_more, without_none}
use Rattle.sed_value.proofs.Maps.{total, total_less, total_over}
use Rattle.link_prop.proofs.AlikeComponents.{class_at, link_with_classes}
use Rattle.app_file.proofs.Names.{names_apart, names_differ}
use Rattle.app_file.proofs.Nodes.{siblings_from, siblings_to}
use Rattle.app_file.proofs.PutComponents.{app_put, each_put, same_put, was_put}
use Rattle.app_file.proofs.Refused.{AllFalse, all_false, not_false}
use Rattle.app_file.proofs.Trees.{IsTreeOf, ids_end, tree_depths, tree_rooted}
use Rattle.comp_tree.proofs.WithinLimits.{tree_of}
use Rattle.app_file.proofs.Visits.{whole_calls}

-- ---- sums over fewer

module _ {V : Type 0} (f : V → ℕ) where
  total_out : (all : FinMap nat_cmp V) (x : ℕ) → total f (map.remove all x) ≤ total f all
  total_out all x = by_value (map.get all x) refl
    where
      by_value : (r : Option V) → map.get all x ≡ r → total f (map.remove all x) ≤ total f all
      by_value (Some v) there = let less = total_less f all x v there in omega arith
      by_value None there =
          let same : map.remove all x ≡ all =
          map.same_map nat_cmp_total map.nat_cmp-IsAntisymmetric (map.remove all x) all (λ q. elim (cases_eq q x) [
            | inl e ↦ ap (map.get (map.remove all x)) e ∙ taken_out all x ∙ sym (ap (map.get all) e ∙ there)
            | inr ne ↦ kept_beside all x q ne
          ])
          in
          let equal : total f (map.remove all x) ≡ total f all = ap (total f) same in
          omega arith

  total_behind : (all : FinMap nat_cmp V) (ids more : List ℕ) → total f (without_all (ids ++ more) all) ≤ total f (without_all ids all)
  total_behind all ids [] = let same : total f (without_all (ids ++ []) all) ≡ total f (without_all ids all) = ap (λ (xs : List ℕ). total f (without_all xs all)) (append_none ids) in omega arith
    where
      append_none : (xs : List ℕ) → xs ++ [] ≡ xs
      append_none [] = refl
      append_none (x ∷ xs) = ap (λ (ys : List ℕ). x ∷ ys) (append_none xs)
  total_behind all ids (x ∷ more) =
      let rest = total_behind all (ids ++ x ∷ []) more in
      let same : total f (without_all (ids ++ (x ∷ more)) all) ≡ total f (without_all ((ids ++ x ∷ []) ++ more) all) = ap (λ (xs : List ℕ). total f (without_all xs all)) (sym (append_assoc ids (x ∷ []) more)) in
      let out : total f (without_all (ids ++ x ∷ []) all) ≤ total f (without_all ids all) = subst (λ (left : FinMap nat_cmp V). total f left ≤ total f (without_all ids all)) (sym (without_more ids x all)) (total_out (without_all ids all) x) in
      omega arith

  total_without : (all : FinMap nat_cmp V) (ids : List ℕ) → total f (without_all ids all) ≤ total f all
  total_without all ids = subst (λ (whole : FinMap nat_cmp V). total f (without_all ids all) ≤ total f whole) (without_none all) (total_behind all [] ids)

-- ---- ids that a test finds

any_in : (ids : List ℕ) (q : ℕ) → In q ids → list_any (λ other. q == other) ids ≡ true
any_in [] q never = absurd never
any_in (x ∷ ids) q (inl e) = first (q == x) (let yes : (q == x) ≡ true = grind (arith, nat_tests) in yes)
  where
    first : (b : Bool) → b ≡ true → (b || list_any (λ other. q == other) ids) ≡ true
    first true e = refl
    first false e = absurd cc
any_in (x ∷ ids) q (inr h) = later (q == x) (any_in ids q h)
  where
    later : (b : Bool) → list_any (λ other. q == other) ids ≡ true → (b || list_any (λ other. q == other) ids) ≡ true
    later true e = refl
    later false e = e

fewer_left : (p : ℕ → Bool) (xs : List ℕ) → length (filter p xs) ≤ length xs
fewer_left p xs = let halves = length-filter_both p (λ x. not (p x)) (λ x. refl) xs in omega arith

-- ---- a subtree that goes

module _ (m : Meaning) (a : Application) (whole : Whole m a) (id : ℕ) (live : IsTrue (is_live a.components.by_id id)) (under : id ≢ 0)
    (gone_links : All (λ (l : Link). (list_any (λ other. l.from == other) (subtree a.components.by_id id) ≡ false) × (list_any (λ other. l.to == other) (subtree a.components.by_id id) ≡ false)) (without_links_at (subtree a.components.by_id id) a.links))
    (order : AreInOrder (without_links_at (subtree a.components.by_id id) a.links))
    (fewer : (q : ℕ) → length (links_at q (without_links_at (subtree a.components.by_id id) a.links)) ≤ length (links_at q a.links)) where
  abbrev all : ById
  all = a.components.by_id

  tree : IsTreeOf all
  tree = tree_of m a whole

  abbrev ids : List ℕ
  ids = subtree all id

  ids_are : ids ≡ down_by (children_of all) 17 id
  ids_are = down_is all (children_of all) (λ q. refl) 17 id

  has_parent : (r : Option ℕ) → parent_of all id ≡ r → (up : ℕ) × (parent_of all id ≡ Some up)
  has_parent (Some up) is = (up, is)
  has_parent None is = let w = tree.within id live in absurd (no_steps w.0 w.2)
    where
      no_steps : (n : ℕ) → up_by (parent_of all) n id ≡ Some 0 → ⊥
      no_steps zero e = under (let same : id ≡ 0 = cc in same)
      no_steps (suc n) e = let no : ◌≡◌ {A = Option ℕ} None (Some 0) = sym (ap (option_and_then (up_by (parent_of all) n)) is) ∙ e in cc

  above : (up : ℕ) × (parent_of all id ≡ Some up)
  above = has_parent (parent_of all id) refl

  abbrev at : ℕ
  at = above.0

  some_of : (r : Option Component) → IsTrue (is_some r) → (c : Component) × (r ≡ Some c)
  some_of None never = absurd (let no : false ≡ true = never in cc)
  some_of (Some c) h = (c, refl)

  holder : (c : Component) × (map.get all at ≡ Some c)
  holder = some_of (map.get all at) (parent_live (is_live all) (parent_of all) (children_of all) tree id at above.1)

  abbrev k : Component
  k = holder.0

  abbrev mid : ById
  mid = map.insert all at (without_child id k)

  abbrev after : ById
  after = removed all id

  after_is : after ≡ without_all ids mid
  after_is =
      ap (λ r. without_all ids (option_map_or (λ (up : ℕ). change_at all up (without_child id)) r all)) above.1
      ∙ ap (λ r. without_all ids (option_map_or (λ (c : Component). map.insert all at (without_child id c)) r all)) holder.1

  gone : (q : ℕ) → In q (down_by (children_of all) 17 id) → map.get after q ≡ None
  gone q h = ap (λ (b : ById). map.get b q) after_is ∙ get_gone ids mid q (subst (In q) (sym ids_are) h)

  stays : (q : ℕ) → (In q (down_by (children_of all) 17 id) → ⊥) → map.get after q ≡ map.get mid q
  stays q out = ap (λ (b : ById). map.get b q) after_is ∙ get_stays ids mid q (λ h. out (subst (In q) ids_are h))

  decide : (q : ℕ) → In q (down_by (children_of all) 17 id) ⊎ (In q (down_by (children_of all) 17 id) → ⊥)
  decide q = decide_in q (down_by (children_of all) 17 id)

  same : {A : Type 0} (F : Option Component → A) → F (Some (without_child id k)) ≡ F (Some k) → (q : ℕ) → (In q (down_by (children_of all) 17 id) → ⊥) → F (map.get after q) ≡ F (map.get all q)
  same F is q out = ap F (stays q out) ∙ same_put all at k (without_child id k) holder.1 F is q

  left : IsTreeOf after
  left =
      tree_less (is_live all) (parent_of all) (children_of all) tree (is_live after) (parent_of after) (children_of after) id at above.1
      (λ q h. ap is_some (gone q h))
      (λ q out. same is_some refl q out)
      (λ q h. ap (option_and_then (λ (c : Component). c.parent)) (gone q h))
      (λ q out. same (option_and_then (λ (c : Component). c.parent)) refl q out)
      (λ q h. ap (λ r. option_map_or (λ (c : Component). c.children) r []) (gone q h))
      (ap (λ r. option_map_or (λ (c : Component). c.children) r []) (stays at (at_stays (is_live all) (parent_of all) (children_of all) tree id at above.1) ∙ get_put all at (without_child id k))
      ∙ ap (λ r. filter (λ child. not (child == id)) (option_map_or (λ (c : Component). c.children) r [])) (sym holder.1))
      (λ q out ne. ap (λ r. option_map_or (λ (c : Component). c.children) r []) (stays q out ∙ get_beside all at (without_child id k) q ne))
      decide

  each : (P : ℕ → Component → Type 0) → P at (without_child id k) → Each all P → Each after P
  each P new were q = elim (decide q) [
    | inl h ↦ subst (λ (r : Option Component). IfSome r (P q)) (sym (gone q h)) (tt {0})
    | inr out ↦ subst (λ (r : Option Component). IfSome r (P q)) (sym (stays q out)) (each_put all at k (without_child id k) holder.1 P new were q)
  ]

  abbrev was : (P : ℕ → Component → Type 0) → Each all P → P at k
  was P were = was_put all at k k holder.1 P were

  -- a child that is left was one, and stays
  child_stays : (q x : ℕ) → In x (children_of after q) → In x (children_of all q) × (In x (down_by (children_of all) 17 id) → ⊥)
  child_stays q x h =
      let up : parent_of after x ≡ Some q = in_child (is_live after) (parent_of after) (children_of after) left x q h in
      elim (decide x) [
        | inl out ↦ absurd (let no : ◌≡◌ {A = Option ℕ} None (Some q) = sym (ap (option_and_then (λ (c : Component). c.parent)) (gone x out)) ∙ up in cc)
        | inr in_it ↦ (in_from (children_of all q) x (tree.up x q (sym (same (option_and_then (λ (c : Component). c.parent)) refl x in_it) ∙ up)), in_it)
      ]

  name_same : (q : ℕ) → (In q (down_by (children_of all) 17 id) → ⊥) → name_of after q ≡ name_of all q
  name_same q out = same (λ r. option_map_or (λ (c : Component). c.name) r []) refl q out

  siblings : (q : ℕ) → IsDistinct bytes_eq (map_list (name_of after) (children_of after q))
  siblings q =
      names_differ (name_of after) (children_of after q) (once_from (children_of after q) (left.once q))
      (λ x y h g ne.
      let old_x = child_stays q x h in
      let old_y = child_stays q y g in
      ap (λ (n : List ℕ). bytes_eq n (name_of after y)) (name_same x old_x.1) ∙ ap (bytes_eq (name_of all x)) (name_same y old_y.1)
      ∙ names_apart (name_of all) (children_of all q) (siblings_from all (name_of all) whole.formed.siblings q) x y old_x.0 old_y.0 ne)

  app_stays : IsSomeAnd (map.get after 0) (IsApp m)
  app_stays = elim (decide 0) [
    | inl h ↦ absurd (let no : false ≡ true = sym (ap is_some (gone 0 h)) ∙ left.app in cc)
    | inr out ↦
        subst (λ (r : Option Component). IsSomeAnd r (IsApp m)) (sym (stays 0 out))
        (app_put all at k (without_child id k) holder.1 m whole.formed.app (λ e is. record { class = is.class; name = is.name; parent = is.parent }))
  ]

  not_gone : (q : ℕ) → list_any (λ other. q == other) ids ≡ false → In q (down_by (children_of all) 17 id) → ⊥
  not_gone q out h = let no : true ≡ false = sym (any_in ids q (subst (In q) (sym ids_are) h)) ∙ out in cc

  abbrev class_same : (q : ℕ) → list_any (λ other. q == other) ids ≡ false → class_at after q ≡ class_at all q
  class_same q out = same (option_map (λ (c : Component). c.class)) refl q (not_gone q out)

  few_ids : Each after (λ q c. q < most_components)
  few_ids = each (λ q c. q < most_components) (was (λ q c. q < most_components) whole.ids) whole.ids

  pub whole_removed : Whole m (record { components = record { by_id = after; statics = a.components.statics; limit = a.components.limit }; links = without_links_at ids a.links })
  whole_removed = record {
    formed = record {
      tree = tree_rooted after left;
      app = app_stays;
      others = each (λ q c. 0 < q → IsOther m c) (λ lt. let o = was (λ q c. 0 < q → IsOther m c) whole.formed.others lt in record { component = o.component; concrete = o.concrete }) whole.formed.others;
      names = each (λ q c. IsTrue (is_name c.name)) (was (λ q c. IsTrue (is_name c.name)) whole.formed.names) whole.formed.names;
      siblings = siblings_to after (name_of after) siblings;
      links = λ n d lt.
          let out = gone_links n d lt in
          link_with_classes m all after (get_or (without_links_at ids a.links) n d) (class_same _ out.0) (class_same _ out.1)
          (All-filter (λ (l : Link). not (list_any (λ other. (l.from == other) || (l.to == other)) ids)) (IsLink m all) a.links whole.formed.links n d lt);
      order = order;
      values = each (λ q c. Fits m.fields (m.fields c.class) (m.initial c.class) c.contents) (was (λ q c. Fits m.fields (m.fields c.class) (m.initial c.class) c.contents) whole.formed.values) whole.formed.values;
      faults = each (λ q c. c.fault ≤ 5) (was (λ q c. c.fault ≤ 5) whole.formed.faults) whole.formed.faults;
      statics = whole.formed.statics;
      ids = ids_end after few_ids;
    };
    ids = few_ids;
    link_count = let halves = length-filter_both (λ (l : Link). not (list_any (λ other. (l.from == other) || (l.to == other)) ids)) (λ (l : Link). not (not (list_any (λ other. (l.from == other) || (l.to == other)) ids))) (λ l. refl) a.links in
        let few = whole.link_count in
        omega arith;
    depths = tree_depths after left;
    children = each (λ q c. length c.children ≤ most_children)
        (let few = was (λ q c. length c.children ≤ most_children) whole.children in let less = fewer_left (λ child. not (child == id)) k.children in omega arith) whole.children;
    links_at_each = λ q. let less = fewer q in let few = whole.links_at_each q in omega arith;
    data_sizes =
        let f : Component → ℕ = λ c. m.data_size c.class in
        let less : total f after ≤ total f mid = subst (λ (b : ById). total f b ≤ total f mid) (sym after_is) (total_without f mid ids) in
        let equal : total f mid ≡ total f all = total_over f all at k (without_child id k) holder.1 refl in
        let few = whole.data_sizes in
        omega arith;
    least_limit = whole.least_limit;
    most_limit = whole.most_limit;
  }

-- ---- a delete

module _ (m : Meaning) (code : IsWhole m) (a : Application) (whole : Whole m a) (id turns : ℕ) (moment : ℤ) (none : first_refusal (refusals_of_delete a.components.by_id id) ≡ None)
    (gone_links : (ids : List ℕ) (links : List Link) → All (λ (l : Link). (list_any (λ other. l.from == other) ids ≡ false) × (list_any (λ other. l.to == other) ids ≡ false)) (without_links_at ids links))
    (order : (ids : List ℕ) (links : List Link) → AreInOrder links → AreInOrder (without_links_at ids links))
    (fewer : (ids : List ℕ) (links : List Link) (q : ℕ) → length (links_at q (without_links_at ids links)) ≤ length (links_at q links)) where
  table : AllFalse (refusals_of_delete a.components.by_id id)
  table = all_false (refusals_of_delete a.components.by_id id) none

  not_app : id ≢ 0
  not_app e = let yes : (id == 0) ≡ true = grind (arith, nat_tests) in let no : true ≡ false = sym yes ∙ table.1.0 in cc

  abbrev stopped : Components
  stopped = (call_each m Stop turns moment a.components (subtree a.components.by_id id)).left

  whole_stopped : Whole m (record { components = stopped; links = a.links })
  whole_stopped = whole_calls m code a.links Stop turns moment (subtree a.components.by_id id) (record { left = a.components; traps = 0 }) whole

  live : IsTrue (is_live stopped.by_id id)
  live = stopped_live m a.components stopped (subtree a.components.by_id id) turns moment refl id ∙ not_false (is_live a.components.by_id id) table.0

  pub whole_delete : Whole m (record { components = after_delete m a.components id turns moment; links = without_links_at (subtree a.components.by_id id) a.links })
  whole_delete =
      subst (λ (ids : List ℕ). Whole m (record { components = after_delete m a.components id turns moment; links = without_links_at ids a.links }))
      (stopped_subtree m a.components stopped (subtree a.components.by_id id) turns moment refl id)
      (whole_removed m (record { components = stopped; links = a.links }) whole_stopped id live not_app
      (gone_links (subtree stopped.by_id id) a.links) (order (subtree stopped.by_id id) a.links whole.formed.order) (fewer (subtree stopped.by_id id) a.links))
