-- What a delete leaves: the `stop` of each component at and below one, and then the tree without them.
use Rattle.std.proofs.Common.{ℕ, zero, suc, ℤ, ◌≡◌, ◌≢◌, ◌<◌, ◌≤◌, ◌+◌, Bool, true, false, not, List, [], ◌∷◌, length, drop, refl, sym, ◌∙◌, ap, subst, arith}
use Rattle.std.proofs.Math.ListN.{get_or}
use Rattle.std.specs.Prelude.{Option, Some, None, All, IfSome, IsSome, IsTrue, is_some, nat_eq, filter, ◌==◌}
use Rattle.std.specs.Option.{option_and_then, option_map, option_map_or}
use Rattle.std.specs.List.{IsDistinct, fold}
use Rattle.std.specs.FinMap as map
use Rattle.std.proofs.lemmas.Bool.Decides.{nat_tests}
use Rattle.sed_value.specs.declared.id.Id.{Id}
use Rattle.sed_value.specs.declared.refusal.Refusal.TheVariants.{AppItself, NoComponent}
use Rattle.sed_engine.specs.declared.call.Callback.{Callback as Callback-type}
use Rattle.sed_engine.specs.declared.call.Callback.TheVariants.{Stop}
use Rattle.sed_engine.specs.declared.call.Root.TheVariants.{Callback}
use Rattle.sed_engine.specs.declared.engine.Engine.{Ghosts}
use Rattle.sed_engine.specs.Code.{Meaning, Places}
use Rattle.sed_engine.specs.Root.{RootEnd}
use Rattle.node_table.specs.declared.node.Node.{Node}
use Rattle.comp_tree.specs.Application.{Component, Components, change_at, children_of, is_live, parent_of, with_components}
use Rattle.comp_tree.specs.Calls.{Call, Counted, call_each, callback_argument, then_run, with_end}
use Rattle.node_table.specs.Changed.{with_children}
use Rattle.comp_tree.specs.Edits.{after_delete, removed, without_all, without_child}
use Rattle.comp_tree.specs.Held.{Held, IsHeld, IsPlaced, IsTreeOf, Nodes, by_id_of, children_in, component_of, components_of, contents_at, parent_in}
use Rattle.comp_tree.specs.Order.{subtree}
use Rattle.comp_tree.specs.Refusals.{first_refusal, refusals_of_delete}
use Rattle.comp_tree.specs.Shape.{down_by, up_by}
use Rattle.comp_tree.proofs.EditLemmas.{changed_is, children_is, live_same, of_found, placed_changed}
use Rattle.comp_tree.proofs.HeldLemmas.{component_with, get-by_id}
use Rattle.comp_tree.proofs.MapLemmas.{get_beside, get_put}
use Rattle.comp_tree.proofs.NodeTrees.{alike_at}
use Rattle.comp_tree.proofs.RunLemmas.{run_alike}
use Rattle.comp_tree.proofs.ShapeLemmas.{In, Once, once_to}
use Rattle.comp_tree.proofs.ShapeSteps.{at_stays, tree_less}
use Rattle.comp_tree.proofs.SubtreeLemmas.{all_of, below_live, decide_in, down_is, get_gone, get_stays, next_at, once_fits, subtree_once}

-- ---- a callback of one after another

module _ (m : Meaning) (c : Callback-type) (turns : ℕ) (moment : ℤ) where
  -- the components that these calls leave
  abbrev pub calls : Components → List ℕ → Components
  calls a ids = fold (λ a id. (Call m a id c 0 turns moment).left) a ids

  counted_left : (s : Counted) (ids : List ℕ) → (fold (λ (s : Counted) (id : ℕ). then_run s (λ a. Call m a id c 0 turns moment)) s ids).left ≡ calls s.left ids
  counted_left s [] = refl
  counted_left s (id ∷ ids) = counted_left (then_run s (λ a. Call m a id c 0 turns moment)) ids

  pub calls_are : (a : Components) (ids : List ℕ) → (call_each m c turns moment a ids).left ≡ calls a ids
  calls_are a ids = counted_left (record { left = a; traps = 0 }) ids

  pub calls_step : (a next whole : Components) (ids : List ℕ) (k x : ℕ) → k < length ids → x ≡ get_or ids k x → next ≡ (Call m a x c 0 turns moment).left → calls a (drop k ids) ≡ whole → calls next (drop (k + 1) ids) ≡ whole
  calls_step a next whole ids k x lt is left so_far =
      ap (λ (b : Components). calls b (drop (k + 1) ids)) left ∙ sym (ap (calls a) (next_at ids k x lt is)) ∙ so_far

  -- what no root call changes
  module _ {A : Type 0} (F : Option Component → A) (same : (k : Component) (e : RootEnd) → F (Some (with_end k e)) ≡ F (Some k)) where
    calls_alike : (a : Components) (ids : List ℕ) (q : ℕ) → F (map.get (calls a ids).by_id q) ≡ F (map.get a.by_id q)
    calls_alike a [] q = refl
    calls_alike a (id ∷ ids) q = calls_alike (Call m a id c 0 turns moment).left ids q ∙ run_alike F same m a id (Callback c) (callback_argument c 0) turns moment q

  pub call_live : (a : Components) (id q : ℕ) → is_live (Call m a id c 0 turns moment).left.by_id q ≡ is_live a.by_id q
  call_live a id q = run_alike is_some (λ k e. refl) m a id (Callback c) (callback_argument c 0) turns moment q

  pub calls_live : (a : Components) (ids : List ℕ) (q : ℕ) → is_live (calls a ids).by_id q ≡ is_live a.by_id q
  calls_live a ids q = calls_alike is_some (λ k e. refl) a ids q

  pub calls_children : (a : Components) (ids : List ℕ) (q : ℕ) → children_of (calls a ids).by_id q ≡ children_of a.by_id q
  calls_children a ids q = calls_alike (λ r. option_map_or (λ (k : Component). k.children) r []) (λ k e. refl) a ids q

  pub calls_parent : (a : Components) (ids : List ℕ) (q : ℕ) → parent_of (calls a ids).by_id q ≡ parent_of a.by_id q
  calls_parent a ids q = calls_alike (λ r. option_and_then (λ (k : Component). k.parent) r) (λ k e. refl) a ids q

-- ---- the subtree of nodes

pub subtree_is : (live : Places) (nodes : Nodes) (id : ℕ) → subtree (by_id_of live nodes) id ≡ down_by (children_in nodes) 17 id
subtree_is live nodes id = down_is (by_id_of live nodes) (children_in nodes) (children_is live nodes) 17 id

pub subtree_kept : (a b : Components) (id : ℕ) → ((q : ℕ) → children_of b.by_id q ≡ children_of a.by_id q) → subtree b.by_id id ≡ subtree a.by_id id
subtree_kept a b id same = down_is b.by_id (children_of a.by_id) same 17 id ∙ sym (down_is a.by_id (children_of a.by_id) (λ q. refl) 17 id)

module _ (nodes : Nodes) (tree : IsTreeOf nodes) (id : ℕ) (there : IsSome (map.get nodes id)) where
  pub subtree_fits : map.len nodes ≤ 4096 → length (down_by (children_in nodes) 17 id) ≤ 4096
  subtree_fits few =
      let fits = once_fits (down_by (children_in nodes) 17 id) nodes (subtree_once (map.contains_key nodes) (parent_in nodes) (children_in nodes) tree id there)
      (below_live (map.contains_key nodes) (parent_in nodes) (children_in nodes) tree id there)
      in
      omega arith

  pub all_live : (live : Places) (ids : List ℕ) → ids ≡ down_by (children_in nodes) 17 id → All (λ x. IsTrue (is_live (by_id_of live nodes) x)) ids
  all_live live ids are =
      all_of (λ x. IsTrue (is_live (by_id_of live nodes) x)) ids
      (λ x h. live_same live nodes x ∙ below_live (map.contains_key nodes) (parent_in nodes) (children_in nodes) tree id there x (subst (In x) are h))

-- ---- its refusals

module _ (live : Places) (nodes : Nodes) (id : ℕ) where
  delete_by : (there app : Bool) → is_some (map.get nodes id) ≡ there → (id == 0) ≡ app → first_refusal (refusals_of_delete (by_id_of live nodes) id) ≡ first_refusal ((not there, NoComponent) ∷ (app, AppItself) ∷ [])
  delete_by there app live_is app_is =
      ap (λ (b : Bool). first_refusal ((not b, NoComponent) ∷ (id == 0, AppItself) ∷ [])) (live_same live nodes id ∙ live_is)
      ∙ ap (λ (b : Bool). first_refusal ((not there, NoComponent) ∷ (b, AppItself) ∷ [])) app_is

  pub delete_no_component : is_some (map.get nodes id) ≡ false → first_refusal (refusals_of_delete (by_id_of live nodes) id) ≡ Some NoComponent
  delete_no_component none = delete_by false (id == 0) none refl

  pub delete_app : is_some (map.get nodes id) ≡ true → id ≡ 0 → first_refusal (refusals_of_delete (by_id_of live nodes) id) ≡ Some AppItself
  delete_app there is = delete_by true true there (let yes : (id == 0) ≡ true = grind (arith, nat_tests) in yes)

  pub delete_allowed : is_some (map.get nodes id) ≡ true → id ≢ 0 → first_refusal (refusals_of_delete (by_id_of live nodes) id) ≡ None
  delete_allowed there ne = delete_by true false there (let no : (id == 0) ≡ false = grind (arith, nat_tests) in no)

-- ---- what has a parent

pub has_parent : (nodes : Nodes) → IsTreeOf nodes → (id : ℕ) → IsSome (map.get nodes id) → id ≢ 0 → parent_in nodes id ≡ None → ⊥
has_parent nodes tree id there ne none = let w = tree.within id there in go w.0 w.2
  where
    go : (n : ℕ) → up_by (parent_in nodes) n id ≡ Some 0 → ⊥
    go zero up = ne (let same : id ≡ 0 = cc in same)
    go (suc n) up = let no : ◌≡◌ {A = Option ℕ} None (Some 0) = sym (ap (option_and_then (up_by (parent_in nodes) n)) none) ∙ up in cc

pub parent_is : (live : Places) (nodes : Nodes) (id : ℕ) → parent_of (by_id_of live nodes) id ≡ parent_in nodes id
parent_is live nodes id = ap (λ r. option_and_then (λ (c : Component). c.parent) r) (get-by_id live nodes id) ∙ by_node (map.get nodes id)
  where
    by_node : (r : Option Node) → option_and_then (λ (c : Component). c.parent) (option_map (component_of live) r) ≡ option_and_then (λ (n : Node). option_map (λ (i : Id). i.0) n.parent) r
    by_node None = refl
    by_node (Some n) = refl

-- ---- the tree without them

module _ {E : Type 0} (g : Ghosts E) (h : Held E) (was : IsHeld (g.meaning h.engine) (g.live h.engine) h.nodes) (id parent : ℕ) (there : IsSome (map.get h.nodes id)) (is_child : parent_in h.nodes id ≡ Some parent)
    (above : Node) (found : map.get h.nodes parent ≡ Some above) (ids : List ℕ) (ids_are : ids ≡ down_by (children_in h.nodes) 17 id)
    (left : List ℕ) (left_is : left ≡ filter (λ child. not (child == id)) above.children)
    (mid : Nodes) (mid_is : IfSome (map.get h.nodes parent) (λ n. mid ≡ map.insert h.nodes parent (with_children left n))) where
  mid_at : mid ≡ map.insert h.nodes parent (with_children left above)
  mid_at = of_found _ above (λ n. mid ≡ map.insert h.nodes parent (with_children left n)) found mid_is

  pub placed_mid : IsPlaced (g.meaning h.engine) (g.live h.engine) mid
  placed_mid = placed_changed g h was.placed parent above found (with_children left) refl refl mid mid_is

  by_id_mid : by_id_of (g.live h.engine) mid ≡ change_at (by_id_of (g.live h.engine) h.nodes) parent (without_child id)
  by_id_mid =
      ap (λ (c : Components). c.by_id)
      (changed_is g h was.placed parent above found (with_children left) refl refl mid mid_is (without_child id)
      (ap (λ (xs : List ℕ). component_with (with_children xs above) (contents_at (g.live h.engine) above.place.0)) left_is))

  live_mid : (q : ℕ) → is_some (map.get mid q) ≡ is_some (map.get h.nodes q)
  live_mid q = ap (λ (n : Nodes). is_some (map.get n q)) mid_at ∙ sym (alike_at is_some h.nodes parent above (with_children left above) found refl q)

  parent_mid : (q : ℕ) → parent_in mid q ≡ parent_in h.nodes q
  parent_mid q =
      ap (λ (n : Nodes). parent_in n q) mid_at
      ∙ sym (alike_at (λ r. option_and_then (λ (n : Node). option_map (λ (i : Id). i.0) n.parent) r) h.nodes parent above (with_children left above) found refl q)

  pub all_there : All (λ x. IsSome (map.get mid x)) ids
  all_there =
      all_of (λ x. IsSome (map.get mid x)) ids
      (λ x k. live_mid x ∙ below_live (map.contains_key h.nodes) (parent_in h.nodes) (children_in h.nodes) was.tree id there x (subst (In x) ids_are k))

  pub each_once : IsDistinct nat_eq ids
  each_once = once_to ids (subst Once (sym ids_are) (subtree_once (map.contains_key h.nodes) (parent_in h.nodes) (children_in h.nodes) was.tree id there))

  module _ (after : Nodes) (engine : E) (after_is : after ≡ without_all ids mid) (placed : IsPlaced (g.meaning engine) (g.live engine) after) where
    gone : (q : ℕ) → In q (down_by (children_in h.nodes) 17 id) → map.get after q ≡ None
    gone q k = ap (λ (n : Nodes). map.get n q) after_is ∙ get_gone ids mid q (subst (In q) (sym ids_are) k)

    stays : (q : ℕ) → (In q (down_by (children_in h.nodes) 17 id) → ⊥) → map.get after q ≡ map.get mid q
    stays q out = ap (λ (n : Nodes). map.get n q) after_is ∙ get_stays ids mid q (λ k. out (subst (In q) ids_are k))

    children_at : children_in after parent ≡ filter (λ child. not (child == id)) (children_in h.nodes parent)
    children_at =
        ap (λ r. option_map_or (λ (n : Node). n.children) r [])
        (stays parent (at_stays (map.contains_key h.nodes) (parent_in h.nodes) (children_in h.nodes) was.tree id parent is_child) ∙ ap (λ (n : Nodes). map.get n parent) mid_at
        ∙ get_put h.nodes parent (with_children left above))
        ∙ left_is ∙ ap (λ r. filter (λ child. not (child == id)) (option_map_or (λ (n : Node). n.children) r [])) (sym found)

    pub cut_held : IsHeld (g.meaning engine) (g.live engine) after
    cut_held = record {
      placed = placed;
      tree = tree_less (map.contains_key h.nodes) (parent_in h.nodes) (children_in h.nodes) was.tree (map.contains_key after) (parent_in after) (children_in after) id parent is_child
          (λ x k. ap is_some (gone x k))
          (λ x out. ap is_some (stays x out) ∙ live_mid x)
          (λ x k. ap (λ r. option_and_then (λ (n : Node). option_map (λ (i : Id). i.0) n.parent) r) (gone x k))
          (λ x out. ap (λ r. option_and_then (λ (n : Node). option_map (λ (i : Id). i.0) n.parent) r) (stays x out) ∙ parent_mid x)
          (λ x k. ap (λ r. option_map_or (λ (n : Node). n.children) r []) (gone x k))
          children_at
          (λ x out ne. ap (λ r. option_map_or (λ (n : Node). n.children) r []) (stays x out ∙ ap (λ (n : Nodes). map.get n x) mid_at ∙ get_beside h.nodes parent (with_children left above) x ne))
          (λ x. decide_in x (down_by (children_in h.nodes) 17 id));
    }

    pub cut_is : by_id_of (g.live engine) after ≡ without_all ids (by_id_of (g.live h.engine) mid) → g.statics engine ≡ g.statics h.engine → g.limit engine ≡ g.limit h.engine
        → components_of g (record { engine = engine; nodes = after }) ≡ with_components (components_of g h) (removed (components_of g h).by_id id)
    cut_is by_id statics limit =
        let all = by_id_of (g.live h.engine) h.nodes in
        let above_is : parent_of all id ≡ Some parent = parent_is (g.live h.engine) h.nodes id ∙ is_child in
        let whole = by_id ∙ ap (without_all ids) (by_id_mid ∙ sym (ap (λ r. option_map_or (λ (p : ℕ). change_at all p (without_child id)) r all) above_is))
        ∙ ap (λ (xs : List ℕ). without_all xs (option_map_or (λ (p : ℕ). change_at all p (without_child id)) (parent_of all id) all)) (ids_are ∙ sym (subtree_is (g.live h.engine) h.nodes id))
        in
        λ i. record { by_id = whole i; statics = statics i; limit = limit i }

-- ---- the steps of a delete, one after another

module _ (m : Meaning) (a mid : Components) (ids : List ℕ) (turns : ℕ) (moment : ℤ) (stopped : mid ≡ (call_each m Stop turns moment a ids).left) where
  pub stopped_live : (q : ℕ) → is_live mid.by_id q ≡ is_live a.by_id q
  stopped_live q = ap (λ (x : Components). is_live x.by_id q) (stopped ∙ calls_are m Stop turns moment a ids) ∙ calls_live m Stop turns moment a ids q

  pub stopped_parent : (q : ℕ) → parent_of mid.by_id q ≡ parent_of a.by_id q
  stopped_parent q = ap (λ (x : Components). parent_of x.by_id q) (stopped ∙ calls_are m Stop turns moment a ids) ∙ calls_parent m Stop turns moment a ids q

  pub stopped_subtree : (id : ℕ) → subtree mid.by_id id ≡ subtree a.by_id id
  stopped_subtree id =
      subtree_kept a mid id (λ q. ap (λ (x : Components). children_of x.by_id q) (stopped ∙ calls_are m Stop turns moment a ids) ∙ calls_children m Stop turns moment a ids q)

  pub delete_done : (after : Components) (id : ℕ) → ids ≡ subtree a.by_id id → after ≡ with_components mid (removed mid.by_id id) → after ≡ after_delete m a id turns moment
  delete_done after id are cut =
      cut ∙ ap (λ (x : Components). with_components x (removed x.by_id id)) (stopped ∙ ap (λ (xs : List ℕ). (call_each m Stop turns moment a xs).left) are)
