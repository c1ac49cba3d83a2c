-- What a change of one component's node and object does to the tree, and what a root call on it comes to.
use Rattle.std.proofs.Common.{ℕ, ℤ, ◌≡◌, ◌≢◌, inl, inr, Bool, true, false, ◌<◌, not, [], ◌∷◌, refl, sym, ◌∙◌, ap, subst}
use Rattle.std.specs.Prelude.{Option, Some, None, IfSome, IsSome, IsSomeAnd, IsTrue, is_some, nat_lt, ◌==◌, if◌then◌else◌}
use Rattle.std.specs.Option.{option_map_or}
use Rattle.std.specs.FinMap as map
use Rattle.sed_value.specs.declared.refusal.Refusal.{Refusal}
use Rattle.sed_value.specs.declared.refusal.Refusal.TheVariants.{NoComponent}
use Rattle.sed_value.specs.declared.value.Value.{Value}
use Rattle.sed_value.specs.declared.value.Value.TheVariants.{Nothing}
use Rattle.sed_typed.specs.declared.schema.ActionArg.TheVariants.{Void}
use Rattle.sed_engine.specs.declared.call.Root.TheVariants.{Execute, Callback}
use Rattle.sed_engine.specs.declared.call.Callback.{Callback as Callback-type}
use Rattle.sed_engine.specs.declared.call.Callback.TheVariants.{Start, Stop, Changed}
use Rattle.comp_tree.specs.Refusals.{first_refusal, refusals_of_clear}
use Rattle.sed_engine.specs.declared.call.CallEnd.{CallEnd}
use Rattle.sed_engine.specs.declared.call.Root.{Root}
use Rattle.sed_engine.specs.declared.engine.Engine.{Ghosts}
use Rattle.sed_engine.specs.Code.{Meaning, Object, Places, called, is_argument, may_call, root_of}
use Rattle.sed_engine.specs.Root.{RootEnd}
use Rattle.node_table.specs.declared.node.Node.{Node}
use Rattle.comp_tree.specs.Application.{Component, Components, object_of}
use Rattle.comp_tree.specs.Calls.{Ran, callback_argument, ended, fault_by, not_run, run_at, with_end}
use Rattle.node_table.specs.Changed.{with_fault}
use Rattle.comp_tree.specs.Held.{Held, Nodes, IsPlaced, IsTreeOf, by_id_of, component_of, components_of, contents_at}
use Rattle.comp_tree.proofs.HeldLemmas.{apart_from, by_id-put, component_with, placed_change}
use Rattle.comp_tree.proofs.MapLemmas.{get_beside, get_put, put_same}
use Rattle.comp_tree.proofs.NodeTrees.{tree_alike}
use Rattle.std.proofs.Common.{arith}
use Rattle.std.proofs.lemmas.Bool.{cases_eq}
use Rattle.std.proofs.lemmas.Bool.Decides.{nat_tests}
use Rattle.comp_tree.proofs.TreeLemmas.{component_is, kept_here, no_component}

module _ (m : Meaning) (live : Places) (nodes : Nodes) (was : IsPlaced m live nodes) (id : ℕ) (n : Node) (found : map.get nodes id ≡ Some n) where
  -- another object of the class at the node's place, and another node of its class and place
  module _ (left : Places) (after : Nodes) (k : Node) (o : Object) (class : o.class ≡ k.kind.0) (kind : k.kind ≡ n.kind) (place : k.place ≡ n.place) (live_is : left ≡ map.insert live n.place.0 o) (nodes_is : after ≡ map.insert nodes id k) where
    at_place : left ≡ map.insert live k.place.0 o
    at_place = live_is ∙ ap (λ p. map.insert live p.0 o) (sym place)

    beside : (q : ℕ) (x : Node) → q ≢ id → map.get nodes q ≡ Some x → x.place.0 ≢ k.place.0
    beside q x ne there same = apart_from m live nodes was id n found q x ne there (same ∙ ap (λ p. p.0) place)

    pub placed_after : IsPlaced m left after
    placed_after =
        subst (λ (l : Places). IsPlaced m l after) (sym at_place) (subst (IsPlaced m (map.insert live k.place.0 o)) (sym nodes_is)
        (placed_change m live nodes was id k o class beside n (object_of (component_of live n)) found (ap (λ p. map.get live p.0) place ∙ kept_here m live nodes was id n found) (ap (λ t. t.0) (sym kind)) (ap (λ t. t.0) (sym kind))))

    pub by_id_after : by_id_of left after ≡ map.insert (by_id_of live nodes) id (component_with k o.contents)
    by_id_after = ap (λ l. by_id_of l after) at_place ∙ ap (by_id_of (map.insert live k.place.0 o)) nodes_is ∙ by_id-put live nodes id k o beside

  -- another node of its class and place, and the engine as it was
  pub placed_node : (after : Nodes) (k : Node) → k.kind ≡ n.kind → k.place ≡ n.place → after ≡ map.insert nodes id k → IsPlaced m live after
  placed_node after k kind place nodes_is =
      placed_after live after k (object_of (component_of live n)) (ap (λ t. t.0) (sym kind)) kind place
      (sym (put_same live n.place.0 (object_of (component_of live n)) (kept_here m live nodes was id n found))) nodes_is

  pub by_id_node : (after : Nodes) (k : Node) → k.kind ≡ n.kind → k.place ≡ n.place → after ≡ map.insert nodes id k → by_id_of live after ≡ map.insert (by_id_of live nodes) id (component_with k (contents_at live n.place.0))
  by_id_node after k kind place nodes_is =
      by_id_after live after k (object_of (component_of live n)) (ap (λ t. t.0) (sym kind)) kind place
      (sym (put_same live n.place.0 (object_of (component_of live n)) (kept_here m live nodes was id n found))) nodes_is

-- ---- root calls

run_by : Meaning → Components → ℕ → Root → Value → ℕ → ℤ → Option Component → Ran
run_by m a id which argument turns moment r =
    option_map_or (λ (c : Component). if c.fault == 0 then ended a id c (root_of m (object_of c) a.statics which argument turns moment) else not_run a turns) r (not_run a turns)

run_is : (m : Meaning) (a : Components) (id : ℕ) (which : Root) (argument : Value) (turns : ℕ) (moment : ℤ) → run_at m a id which argument turns moment ≡ run_by m a id which argument turns moment (map.get a.by_id id)
unfolding run_by
run_is m a id which argument turns moment = refl

-- what a root call changes of no component
module _ {A : Type 0} (F : Option Component → A) (same : (k : Component) (e : RootEnd) → F (Some (with_end k e)) ≡ F (Some k)) where
  pub run_alike : (m : Meaning) (a : Components) (id : ℕ) (which : Root) (argument : Value) (turns : ℕ) (moment : ℤ) (q : ℕ) → F (map.get (run_at m a id which argument turns moment).left.by_id q) ≡ F (map.get a.by_id q)
  unfolding run_by
  run_alike m a id which argument turns moment q = ap (λ (r : Ran). F (map.get r.left.by_id q)) (run_is m a id which argument turns moment) ∙ by_component (map.get a.by_id id) refl
    where
      by_test : (c : Component) → map.get a.by_id id ≡ Some c → (b : Bool)
          → F (map.get (if b then ended a id c (root_of m (object_of c) a.statics which argument turns moment) else not_run a turns).left.by_id q) ≡ F (map.get a.by_id q)
      by_test c e false = refl
      by_test c e true =
          let n : Component = with_end c (root_of m (object_of c) a.statics which argument turns moment) in
          elim (cases_eq q id) [
            | inl is ↦
                ap (λ (k : ℕ). F (map.get (map.insert a.by_id id n) k)) is ∙ ap F (get_put a.by_id id n) ∙ same c (root_of m (object_of c) a.statics which argument turns moment) ∙ ap F (sym e)
                ∙ ap (λ (k : ℕ). F (map.get a.by_id k)) (sym is)
            | inr ne ↦ ap F (get_beside a.by_id id n q ne)
          ]

      by_component : (r : Option Component) → map.get a.by_id id ≡ r → F (map.get (run_by m a id which argument turns moment r).left.by_id q) ≡ F (map.get a.by_id q)
      by_component None e = refl
      by_component (Some c) e = by_test c e (c.fault == 0)

is_zero : (n : ℕ) → n ≡ 0 → (n == 0) ≡ true
is_zero n e = grind (arith, nat_tests)

is_not_zero : (n : ℕ) → n ≢ 0 → (n == 0) ≡ false
is_not_zero n ne = grind (arith, nat_tests)

of_some : {A : Type 0} (r : Option A) (x : A) (P : A → Type 0) → r ≡ Some x → IfSome r P → P x
of_some {A} r x P e h = subst (λ (y : Option A). IfSome y P) e h

module _ {E : Type 0} (g : Ghosts E) (h : Held E) (id : ℕ) (which : Root) (argument : Value) (turns : ℕ) (moment : ℤ) where
  pub run_without : map.get h.nodes id ≡ None → run_at (g.meaning h.engine) (components_of g h) id which argument turns moment ≡ not_run (components_of g h) turns
  unfolding run_by
  run_without none =
      run_is (g.meaning h.engine) (components_of g h) id which argument turns moment
      ∙ ap (run_by (g.meaning h.engine) (components_of g h) id which argument turns moment) (no_component (g.live h.engine) h.nodes id none)

  module _ (n : Node) (found : map.get h.nodes id ≡ Some n) where
    run_with : (b : Bool) → (n.fault == 0) ≡ b → run_at (g.meaning h.engine) (components_of g h) id which argument turns moment
        ≡ (if b then ended (components_of g h) id (component_of (g.live h.engine) n) (root_of (g.meaning h.engine) (object_of (component_of (g.live h.engine) n)) (g.statics h.engine) which argument turns moment) else not_run (components_of g h) turns)
    unfolding run_by
    run_with b test =
        run_is (g.meaning h.engine) (components_of g h) id which argument turns moment
        ∙ ap (run_by (g.meaning h.engine) (components_of g h) id which argument turns moment) (component_is (g.meaning h.engine) (g.live h.engine) h.nodes id n found)
        ∙ ap (λ (t : Bool). if t then ended (components_of g h) id (component_of (g.live h.engine) n) (root_of (g.meaning h.engine) (object_of (component_of (g.live h.engine) n)) (g.statics h.engine) which argument turns moment) else not_run (components_of g h) turns) test

    pub run_faulted : n.fault ≢ 0 → run_at (g.meaning h.engine) (components_of g h) id which argument turns moment ≡ not_run (components_of g h) turns
    run_faulted ne = run_with false (is_not_zero n.fault ne)

    module _ (was : IsPlaced (g.meaning h.engine) (g.live h.engine) h.nodes) (zero : n.fault ≡ 0) (engine : E) (after : Nodes) (end : CallEnd) (fault : ℕ)
        (left_is : IfSome (map.get (g.live h.engine) n.place.0) (λ o. g.live engine ≡ map.insert (g.live h.engine) n.place.0 (called o (root_of (g.meaning h.engine) o (g.statics h.engine) which argument turns moment))))
        (statics_are : IfSome (map.get (g.live h.engine) n.place.0) (λ o. g.statics engine ≡ (root_of (g.meaning h.engine) o (g.statics h.engine) which argument turns moment).statics))
        (end_is : IfSome (map.get (g.live h.engine) n.place.0) (λ o. end ≡ (root_of (g.meaning h.engine) o (g.statics h.engine) which argument turns moment).end))
        (limit : g.limit engine ≡ g.limit h.engine) (same : g.meaning engine ≡ g.meaning h.engine) (fault_is : fault ≡ fault_by end)
        (nodes_are : IfSome (map.get h.nodes id) (λ k. after ≡ map.insert h.nodes id (with_fault fault k))) where
      object : Object
      object = object_of (component_of (g.live h.engine) n)

      root : RootEnd
      root = root_of (g.meaning h.engine) (object_of (component_of (g.live h.engine) n)) (g.statics h.engine) which argument turns moment

      here : map.get (g.live h.engine) n.place.0 ≡ Some (object_of (component_of (g.live h.engine) n))
      here = kept_here (g.meaning h.engine) (g.live h.engine) h.nodes was id n found

      live_after : g.live engine ≡ map.insert (g.live h.engine) n.place.0 (called (object_of (component_of (g.live h.engine) n)) (root_of (g.meaning h.engine) (object_of (component_of (g.live h.engine) n)) (g.statics h.engine) which argument turns moment))
      live_after = of_some _ (object_of (component_of (g.live h.engine) n)) (λ o. g.live engine ≡ map.insert (g.live h.engine) n.place.0 (called o (root_of (g.meaning h.engine) o (g.statics h.engine) which argument turns moment))) here left_is

      nodes_after : after ≡ map.insert h.nodes id (with_fault fault n)
      nodes_after = of_some _ n (λ k. after ≡ map.insert h.nodes id (with_fault fault k)) found nodes_are

      end_after : end ≡ (root_of (g.meaning h.engine) (object_of (component_of (g.live h.engine) n)) (g.statics h.engine) which argument turns moment).end
      end_after = of_some _ (object_of (component_of (g.live h.engine) n)) (λ o. end ≡ (root_of (g.meaning h.engine) o (g.statics h.engine) which argument turns moment).end) here end_is

      statics_after : g.statics engine ≡ (root_of (g.meaning h.engine) (object_of (component_of (g.live h.engine) n)) (g.statics h.engine) which argument turns moment).statics
      statics_after = of_some _ (object_of (component_of (g.live h.engine) n)) (λ o. g.statics engine ≡ (root_of (g.meaning h.engine) o (g.statics h.engine) which argument turns moment).statics) here statics_are

      pub placed_run : IsPlaced (g.meaning engine) (g.live engine) after
      placed_run = subst (λ m. IsPlaced m (g.live engine) after) (sym same)
          (placed_after (g.meaning h.engine) (g.live h.engine) h.nodes was id n found (g.live engine) after (with_fault fault n)
          (called (object_of (component_of (g.live h.engine) n)) (root_of (g.meaning h.engine) (object_of (component_of (g.live h.engine) n)) (g.statics h.engine) which argument turns moment)) refl refl refl live_after nodes_after)

      pub tree_run : IsTreeOf h.nodes → IsTreeOf after
      tree_run tree = subst IsTreeOf (sym nodes_after) (tree_alike h.nodes id n (with_fault fault n) found refl refl tree)

      by_id_run : by_id_of (g.live engine) after ≡ map.insert (by_id_of (g.live h.engine) h.nodes) id (with_end (component_of (g.live h.engine) n) (root_of (g.meaning h.engine) (object_of (component_of (g.live h.engine) n)) (g.statics h.engine) which argument turns moment))
      by_id_run =
          by_id_after (g.meaning h.engine) (g.live h.engine) h.nodes was id n found (g.live engine) after (with_fault fault n)
          (called (object_of (component_of (g.live h.engine) n)) (root_of (g.meaning h.engine) (object_of (component_of (g.live h.engine) n)) (g.statics h.engine) which argument turns moment)) refl refl refl live_after nodes_after
          ∙ ap (λ f. map.insert (by_id_of (g.live h.engine) h.nodes) id (component_with (with_fault f n) (root_of (g.meaning h.engine) (object_of (component_of (g.live h.engine) n)) (g.statics h.engine) which argument turns moment).contents)) (fault_is ∙ ap fault_by end_after)

      pub run_left : components_of g (record { engine = engine; nodes = after }) ≡ (run_at (g.meaning h.engine) (components_of g h) id which argument turns moment).left
      run_left = (λ i. record { by_id = by_id_run i; statics = statics_after i; limit = limit i }) ∙ sym (ap (λ (x : Ran). x.left) (run_with true (is_zero n.fault zero)))

      pub run_end : end ≡ (run_at (g.meaning h.engine) (components_of g h) id which argument turns moment).end
      run_end = end_after ∙ sym (ap (λ (x : Ran). x.end) (run_with true (is_zero n.fault zero)))

-- what may be called on a component may be called on its object
pub may_here : (m : Meaning) (live : Places) (nodes : Nodes) (was : IsPlaced m live nodes) (id : ℕ) (n : Node) (found : map.get nodes id ≡ Some n) (P : ℕ → Type 0) →
    IsSomeAnd (map.get (by_id_of live nodes) id) (λ c. P c.class) → IsSomeAnd (map.get live n.place.0) (λ o. P o.class)
may_here m live nodes was id n found P may =
    let there : P n.kind.0 = subst (λ (r : Option Component). IsSomeAnd r (λ c. P c.class)) (component_is m live nodes id n found) may in
    subst (λ (r : Option Object). IsSomeAnd r (λ o. P o.class)) (sym (kept_here m live nodes was id n found)) there

-- ---- clear

clear_refusal : Option Component → Option Refusal
clear_refusal r = first_refusal ((not (is_some r), NoComponent) ∷ [])

pub clear_refused : (live : Places) (nodes : Nodes) (id : ℕ) → map.get nodes id ≡ None → first_refusal (refusals_of_clear (by_id_of live nodes) id) ≡ Some NoComponent
unfolding clear_refusal
clear_refused live nodes id none = ap clear_refusal (no_component live nodes id none)

pub clear_allowed : (m : Meaning) (live : Places) (nodes : Nodes) (id : ℕ) (n : Node) → map.get nodes id ≡ Some n → first_refusal (refusals_of_clear (by_id_of live nodes) id) ≡ None
unfolding clear_refusal
clear_allowed m live nodes id n found = ap clear_refusal (component_is m live nodes id n found)

-- ---- what may be called on every component

pub any_may : (r : Option Component) (P : Component → Type 0) → IsSome r → ((c : Component) → P c) → IsSomeAnd r P
any_may None P there all = absurd (let t = there in cc)
any_may (Some c) P there all = all c

pub execute_may : (m : Meaning) (class : ℕ) (v : Value) → v ≡ Nothing → IsTrue (may_call m class Execute v)
execute_may m class v e = ap (is_argument Void) e

is_small : (slot : ℕ) → slot < 256 → nat_lt slot 2147483648 ≡ true
is_small slot lt = grind (arith, nat_tests)

callback_may_be : (m : Meaning) (class : ℕ) (c : Callback-type) (slot : ℕ) → slot < 256 → IsTrue (may_call m class (Callback c) (callback_argument c slot))
callback_may_be m class Start slot lt = refl
callback_may_be m class Stop slot lt = refl
callback_may_be m class Changed slot lt = is_small slot lt

pub callback_may : (m : Meaning) (class : ℕ) (c : Callback-type) (slot : ℕ) (v : Value) → slot < 256 → v ≡ callback_argument c slot → IsTrue (may_call m class (Callback c) v)
callback_may m class c slot v lt e = subst (λ (w : Value). IsTrue (may_call m class (Callback c) w)) (sym e) (callback_may_be m class c slot lt)
