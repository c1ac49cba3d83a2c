-- What an add leaves.
use Rattle.std.proofs.Common.{ℕ, zero, suc, ◌≡◌, ◌≢◌, ◌+◌, ◌<◌, ◌≤◌, ◌⊎◌, inl, inr, ℤ, Bool, true, false, List, [], ◌∷◌, ◌++◌, length, refl, sym, ◌∙◌, ap, subst, arith}
use Rattle.std.specs.Prelude.{Option, Some, None, Result, Err, IfSome, IsSome, IsTrue, is_some, nat_lt, if◌then◌else◌}
use Rattle.std.specs.Option.{option_map, option_map_or}
use Rattle.std.specs.FinMap as map
use Rattle.std.specs.List.{zip}
use Rattle.std.proofs.lemmas.Bool.{cases_eq, cases_lt}
use Rattle.std.proofs.lemmas.Bool.Decides.{nat_tests}
use Rattle.sed_value.specs.declared.id.Id.{Id}
use Rattle.sed_value.specs.declared.value.Value.{Value}
use Rattle.sed_typed.specs.Classes.{reached}
use Rattle.sed_typed.specs.declared.number.TypeNo.{TypeNo}
use Rattle.sed_engine.specs.declared.call.Place.{Place}
use Rattle.sed_engine.specs.declared.engine.Engine.{Ghosts}
use Rattle.sed_engine.specs.Code.{Meaning, Object, Places, new_object, with_slot}
use Rattle.node_table.specs.declared.node.Node.{Node}
use Rattle.comp_tree.specs.Application.{ById, Component, Components, change_at, children_of, data_size_of, greatest_depth, is_live, with_components}
use Rattle.node_table.specs.Changed.{with_children}
use Rattle.comp_tree.specs.Edits.{added, after_add, new_component, with_child}
use Rattle.sed_value.specs.declared.refusal.Refusal.{Refusal}
use Rattle.sed_value.specs.declared.refusal.Refusal.TheVariants.{DataFull, OutOfMemory}
use Rattle.sed_engine.specs.declared.call.Callback.TheVariants.{Start}
use Rattle.comp_tree.specs.Allowed.{MayAdd}
use Rattle.comp_tree.specs.Calls.{Call}
use Rattle.comp_tree.specs.Edit.{class_or_none}
use Rattle.comp_tree.specs.Refusals.{config_types, first_refusal, refusals_of_add}
use Rattle.comp_tree.specs.Values.{taken}
use Rattle.comp_tree.specs.Held.{Held, IsHeld, components_of, IsPlaced, Nodes, by_id_of, component_of, parent_in}
use Rattle.comp_tree.specs.Order.{depth, free_from, least_free, most_levels}
use Rattle.comp_tree.specs.Parts.{config_slots, with_slots}
use Rattle.comp_tree.proofs.DepthLemmas.{depth_is}
use Rattle.comp_tree.proofs.HeldLemmas.{apart_from_new, by_id-put, component_with, get-by_id, placed_add}
use Rattle.comp_tree.proofs.MapLemmas.{get_beside, get_put, len-map_values, put_twice}
use Rattle.comp_tree.proofs.NodeTrees.{tree_with}
use Rattle.comp_tree.proofs.RunLemmas.{by_id_node, placed_node}
use Rattle.comp_tree.proofs.TreeLemmas.{component_is}
use Rattle.comp_tree.proofs.AllowedLemmas.{depth_there}
use Rattle.comp_tree.proofs.EditLemmas.{children_is, live_same, of_found}
use Rattle.comp_tree.proofs.MatchLemmas.{if_some}

-- ---- the least free id

free_is : (all : ById) (n a id : ℕ) → a ≤ id → id < a + n → is_live all id ≡ false → ((q : ℕ) → q < id → is_live all q ≡ true) → free_from all n a ≡ id
unfolding free_from
free_is all zero a id le lt free least = absurd (omega arith)
free_is all (suc n) a id le lt free least = elim (cases_eq a id) [
  | inl e ↦ ap (λ (b : Bool). if b then free_from all n (suc a) else a) (ap (is_live all) e ∙ free) ∙ e
  | inr ne ↦
      ap (λ (b : Bool). if b then free_from all n (suc a) else a) (least a (omega arith))
      ∙ free_is all n (suc a) id (omega arith) (omega arith) free least
]

module _ (live : Places) (nodes : Nodes) where
  live_there : (q : ℕ) (b : Bool) → is_some (map.get nodes q) ≡ b → is_live (by_id_of live nodes) q ≡ b
  live_there q b e = ap is_some (get-by_id live nodes q) ∙ mapped (map.get nodes q) ∙ e
    where
      mapped : (r : Option Node) → is_some (option_map (component_of live) r) ≡ is_some r
      mapped None = refl
      mapped (Some n) = refl

  pub least_is : (id : ℕ) → map.get nodes id ≡ None → ((q : ℕ) → q < id → IsSome (map.get nodes q)) → id < 4096 → id ≡ least_free (by_id_of live nodes)
  least_is id free least lt =
      sym (free_is (by_id_of live nodes) 4096 0 id (omega arith) (omega arith) (live_there id false (ap is_some free)) (λ q below. live_there q true (least q below)))

-- ---- the node and its object

pub class_kept : (m : Meaning) (es : List (ℕ × Value)) (o : Object) → (with_slots m es o).class ≡ o.class
class_kept m [] o = refl
class_kept m (e ∷ es) o = class_kept m es (with_slot m o e.0 e.1)

module _ (m : Meaning) (live : Places) (nodes : Nodes) (was : IsHeld m live nodes) (parent id : ℕ) (above k : Node) (found : map.get nodes parent ≡ Some above) (free : map.get nodes id ≡ None)
    (fresh : map.get live k.place.0 ≡ None) (o : Object) (class : o.class ≡ k.kind.0) where
  apart : parent ≢ id
  apart same = let no : ◌≡◌ {A = Option Node} None (Some above) = sym free ∙ ap (map.get nodes) (sym same) ∙ found in cc

  placed_grown : IsPlaced m live (map.insert nodes parent (with_children (above.children ++ id ∷ []) above))
  placed_grown = placed_node m live nodes was.placed parent above found _ (with_children (above.children ++ id ∷ []) above) refl refl refl

  free_still : map.get (map.insert nodes parent (with_children (above.children ++ id ∷ []) above)) id ≡ None
  free_still = get_beside nodes parent (with_children (above.children ++ id ∷ []) above) id (λ e. apart (sym e)) ∙ free

  others : (q : ℕ) (n : Node) → q ≢ id → map.get (map.insert nodes parent (with_children (above.children ++ id ∷ []) above)) q ≡ Some n → n.place.0 ≢ k.place.0
  others q n ne h = apart_from_new m live (map.insert nodes parent (with_children (above.children ++ id ∷ []) above)) placed_grown id k.place.0 fresh q n h

  placed_with : IsPlaced m (map.insert live k.place.0 o) (map.insert (map.insert nodes parent (with_children (above.children ++ id ∷ []) above)) id k)
  placed_with = placed_add m live (map.insert nodes parent (with_children (above.children ++ id ∷ []) above)) placed_grown id k o class others free_still fresh

  by_id_grown : by_id_of live (map.insert nodes parent (with_children (above.children ++ id ∷ []) above)) ≡ change_at (by_id_of live nodes) parent (with_child id)
  by_id_grown =
      by_id_node m live nodes was.placed parent above found _ (with_children (above.children ++ id ∷ []) above) refl refl refl
      ∙ sym (ap (λ r. option_map_or (λ (c : Component). map.insert (by_id_of live nodes) parent (with_child id c)) r (by_id_of live nodes)) (component_is m live nodes parent above found))

  pub added_is : (name : List ℕ) (values : List Value) → k.name ≡ name → option_map (λ (i : Id). i.0) k.parent ≡ Some parent → k.children ≡ [] → k.fault ≡ 0
      → o ≡ with_slots m (zip (config_slots m k.kind.0) values) (new_object m k.kind.0)
      → by_id_of (map.insert live k.place.0 o) (map.insert (map.insert nodes parent (with_children (above.children ++ id ∷ []) above)) id k) ≡ added m (by_id_of live nodes) id parent k.kind.0 name values
  added_is name values name_is up none whole is =
      let same : component_with k o.contents ≡ new_component m (Some parent) k.kind.0 name values = λ i. record {
        class = k.kind.0;
        name = name_is i;
        parent = up i;
        children = none i;
        contents = (ap (λ (x : Object). x.contents) is) i;
        fault = whole i;
      } in
      by_id-put live (map.insert nodes parent (with_children (above.children ++ id ∷ []) above)) id k o others
      ∙ ap (λ all. map.insert all id (component_with k o.contents)) by_id_grown
      ∙ ap (map.insert (change_at (by_id_of live nodes) parent (with_child id)) id) same

  pub held_with : (up : Id) → k.parent ≡ Some up → up.0 ≡ parent → k.children ≡ [] → length (reached (parent_in nodes) most_levels (parent_in nodes parent)) < greatest_depth
      → IsHeld m (map.insert live k.place.0 o) (map.insert (map.insert nodes parent (with_children (above.children ++ id ∷ []) above)) id k)
  held_with up parent_is is none deep =
      let w = was.tree.within parent (ap is_some found) in
      let depth : length (reached (parent_in nodes) most_levels (parent_in nodes parent)) ≡ w.0 = depth_is (parent_in nodes) most_levels w.0 parent was.tree.root (let le = w.1 in omega arith) w.2 in
      record {
        placed = placed_with;
        tree = tree_with nodes was.tree parent id above k up found free parent_is is none w.0 (omega arith) w.2;
      }

pub len_same : (live : Places) (nodes : Nodes) → map.len (by_id_of live nodes) ≡ map.len nodes
len_same live nodes = len-map_values (component_of live) nodes

pub few_children : (live : Places) (nodes : Nodes) (parent : ℕ) → length (children_of (by_id_of live nodes) parent) < 200 → IfSome (map.get nodes parent) (λ n. length n.children < 200)
few_children live nodes parent few =
    if_some (map.get nodes parent) (λ n. length n.children < 200) (λ n e.
    subst (λ (xs : List ℕ). length xs < 200) (children_is live nodes parent ∙ ap (λ r. option_map_or (λ (n : Node). n.children) r []) e) few)

pub free_pushed : (nodes after : Nodes) (parent id : ℕ) (above : Node) → map.get nodes parent ≡ Some above → IfSome (map.get nodes parent) (λ n. after ≡ map.insert nodes parent (with_children (n.children ++ id ∷ []) n))
    → map.get nodes id ≡ None → map.get after id ≡ None
free_pushed nodes after parent id above found pushed free =
    let is = of_found _ above (λ n. after ≡ map.insert nodes parent (with_children (n.children ++ id ∷ []) n)) found pushed in
    let ne : id ≢ parent = λ same. let no : ◌≡◌ {A = Option Node} None (Some above) = sym free ∙ ap (map.get nodes) same ∙ found in cc in
    ap (λ (m : Nodes). map.get m id) is ∙ get_beside nodes parent (with_children (above.children ++ id ∷ []) above) id ne ∙ free

-- ---- the steps of an add, one after another

-- the values of the config properties of a class, by their slots
abbrev config_of : Meaning → ℕ → List ℕ → List (ℕ × Value)
config_of m class config = zip (config_slots m class) (taken (config_types m class) config)

pub live_with : (m n : Meaning) (live first second : Places) (place class : ℕ) (values : Meaning → List (ℕ × Value)) → first ≡ map.insert live place (new_object m class) → n ≡ m
    → IfSome (map.get first place) (λ o. second ≡ map.insert first place (with_slots n (values n) o))
    → second ≡ map.insert live place (with_slots m (values m) (new_object m class))
live_with m n live first second place class values is same stored =
    of_found (map.get first place) (new_object m class) (λ o. second ≡ map.insert first place (with_slots n (values n) o))
    (ap (λ (l : Places). map.get l place) is ∙ get_put live place (new_object m class)) stored
    ∙ ap (λ (l : Places). map.insert l place (with_slots n (values n) (new_object m class))) is
    ∙ put_twice live place (new_object m class) (with_slots n (values n) (new_object m class))
    ∙ ap (λ (x : Meaning). map.insert live place (with_slots x (values x) (new_object m class))) same

pub live_two : (m n : Meaning) (live first second : Places) (place class : ℕ) (config : List ℕ) → first ≡ map.insert live place (new_object m class) → n ≡ m
    → IfSome (map.get first place) (λ o. second ≡ map.insert first place (with_slots n (zip (config_slots n class) (taken (config_types n class) config)) o))
    → second ≡ map.insert live place (with_slots m (zip (config_slots m class) (taken (config_types m class) config)) (new_object m class))
live_two m n live first second place class config is same stored = live_with m n live first second place class (λ x. config_of x class config) is same stored

module _ {E : Type 0} (g : Ghosts E) (h : Held E) (was : IsHeld (g.meaning h.engine) (g.live h.engine) h.nodes) (parent id : Id) (kind : TypeNo) (place : Place) (name config : List ℕ) (engine : E) (nodes after : Nodes) (k : Node)
    (fresh : map.get (g.live h.engine) place.0 ≡ None)
    (live_is : g.live engine ≡ map.insert (g.live h.engine) place.0 (with_slots (g.meaning h.engine) (zip (config_slots (g.meaning h.engine) kind.0) (taken (config_types (g.meaning h.engine) kind.0) config)) (new_object (g.meaning h.engine) kind.0)))
    (meaning : g.meaning engine ≡ g.meaning h.engine) (statics : g.statics engine ≡ g.statics h.engine) (limit : g.limit engine ≡ g.limit h.engine)
    (above : Node) (found : map.get h.nodes parent.0 ≡ Some above)
    (pushed : IfSome (map.get h.nodes parent.0) (λ n. nodes ≡ map.insert h.nodes parent.0 (with_children (n.children ++ id.0 ∷ []) n)))
    (put : after ≡ map.insert nodes id.0 k) (free : map.get h.nodes id.0 ≡ None)
    (kind_is : k.kind ≡ kind) (name_is : k.name ≡ name) (parent_is : k.parent ≡ Some parent) (children_is : k.children ≡ []) (fault_is : k.fault ≡ 0) (place_is : k.place ≡ place) where
  live_here : g.live engine ≡ map.insert (g.live h.engine) k.place.0 (with_slots (g.meaning h.engine) (config_of (g.meaning h.engine) k.kind.0 config) (new_object (g.meaning h.engine) k.kind.0))
  live_here =
      live_is
      ∙ ap (λ (p : Place). map.insert (g.live h.engine) p.0 (with_slots (g.meaning h.engine) (config_of (g.meaning h.engine) kind.0 config) (new_object (g.meaning h.engine) kind.0))) (sym place_is)
      ∙ ap (λ (t : TypeNo). map.insert (g.live h.engine) k.place.0 (with_slots (g.meaning h.engine) (config_of (g.meaning h.engine) t.0 config) (new_object (g.meaning h.engine) t.0))) (sym kind_is)

  nodes_here : after ≡ map.insert (map.insert h.nodes parent.0 (with_children (above.children ++ id.0 ∷ []) above)) id.0 k
  nodes_here = put ∙ ap (λ (n : Nodes). map.insert n id.0 k) (of_found _ above (λ n. nodes ≡ map.insert h.nodes parent.0 (with_children (n.children ++ id.0 ∷ []) n)) found pushed)

  fresh_here : map.get (g.live h.engine) k.place.0 ≡ None
  fresh_here = ap (λ (p : Place). map.get (g.live h.engine) p.0) place_is ∙ fresh

  class_here : (with_slots (g.meaning h.engine) (config_of (g.meaning h.engine) k.kind.0 config) (new_object (g.meaning h.engine) k.kind.0)).class ≡ k.kind.0
  class_here = class_kept (g.meaning h.engine) (config_of (g.meaning h.engine) k.kind.0 config) (new_object (g.meaning h.engine) k.kind.0)

  pub grown_held : depth (by_id_of (g.live h.engine) h.nodes) parent.0 < greatest_depth → IsHeld (g.meaning engine) (g.live engine) after
  grown_held deep =
      subst (λ m. IsHeld m (g.live engine) after) (sym meaning)
      (subst (λ l. IsHeld (g.meaning h.engine) l after) (sym live_here)
      (subst (IsHeld (g.meaning h.engine) (map.insert (g.live h.engine) k.place.0 (with_slots (g.meaning h.engine) (config_of (g.meaning h.engine) k.kind.0 config) (new_object (g.meaning h.engine) k.kind.0)))) (sym nodes_here)
      (held_with (g.meaning h.engine) (g.live h.engine) h.nodes was parent.0 id.0 above k found free fresh_here _ class_here parent parent_is refl children_is
      (subst (λ (d : ℕ). d < greatest_depth) (depth_there (g.live h.engine) h.nodes parent.0 [] above found) deep))))

  pub grown_is : components_of g (record { engine = engine; nodes = after }) ≡ with_components (components_of g h)
      (added (g.meaning h.engine) (components_of g h).by_id id.0 parent.0 kind.0 name (taken (config_types (g.meaning h.engine) kind.0) config))
  grown_is =
      let by_id = ap (λ l. by_id_of l after) live_here
      ∙ ap (by_id_of (map.insert (g.live h.engine) k.place.0 (with_slots (g.meaning h.engine) (config_of (g.meaning h.engine) k.kind.0 config) (new_object (g.meaning h.engine) k.kind.0)))) nodes_here
      ∙ added_is (g.meaning h.engine) (g.live h.engine) h.nodes was parent.0 id.0 above k found free fresh_here _ class_here name (taken (config_types (g.meaning h.engine) k.kind.0) config)
      name_is (ap (option_map (λ (i : Id). i.0)) parent_is) children_is fault_is refl
      ∙ ap (λ (t : TypeNo). added (g.meaning h.engine) (by_id_of (g.live h.engine) h.nodes) id.0 parent.0 t.0 name (taken (config_types (g.meaning h.engine) t.0) config)) kind_is
      in
      λ i. record { by_id = by_id i; statics = statics i; limit = limit i }

  pub grown_live : IsTrue (is_live (by_id_of (g.live engine) after) id.0)
  grown_live = live_same (g.live engine) after id.0 ∙ ap (λ (n : Nodes). is_some (map.get n id.0)) put ∙ ap is_some (get_put nodes id.0 k)

-- ---- the answer

NotMemory : List (Bool × Refusal) → Type 0
NotMemory [] = Unit {0}
NotMemory (row ∷ rows) = (row.1 ≢ OutOfMemory) × NotMemory rows

not_memory : (rows : List (Bool × Refusal)) → NotMemory rows → first_refusal rows ≡ Some OutOfMemory → ⊥
unfolding NotMemory
not_memory [] all e = let never = ap is_some e in cc
not_memory (row ∷ rows) all e = by_test row.0 row.1 (all.0) (not_memory rows all.1) e
  where
    by_test : (b : Bool) (r : Refusal) → r ≢ OutOfMemory → (first_refusal rows ≡ Some OutOfMemory → ⊥) → (if b then Some r else first_refusal rows) ≡ Some OutOfMemory → ⊥
    by_test true r ne rest f = ne (let same : r ≡ OutOfMemory = cc in same)
    by_test false r ne rest f = rest f

-- want of memory stands in no row
pub add_not_memory : (m : Meaning) (a : Components) (parent kit number : ℕ) (name config : List ℕ) → first_refusal (refusals_of_add m a parent kit number name config) ≡ Some OutOfMemory → ⊥
unfolding NotMemory
add_not_memory m a parent kit number name config e =
    not_memory (refusals_of_add m a parent kit number name config) (
      (λ e. let no = e in cc),
      (
        (λ e. let no = e in cc),
        (
          (λ e. let no = e in cc),
          (
            (λ e. let no = e in cc),
            (
              (λ e. let no = e in cc),
              (
                (λ e. let no = e in cc),
                ((λ e. let no = e in cc), ((λ e. let no = e in cc), ((λ e. let no = e in cc), ((λ e. let no = e in cc), ((λ e. let no = e in cc), tt))))),
              ),
            ),
          ),
        ),
      ),
    ) e

module _ (m : Meaning) (a : Components) (parent kit number : ℕ) (name config : List ℕ) (class : ℕ) (new : List ℕ) (may : MayAdd m a parent kit number name config class new) where
  limit_of : (b : Bool) → nat_lt a.limit (data_size_of m a.by_id + m.data_size class) ≡ b → first_refusal (refusals_of_add m a parent kit number name config) ≡ (if b then Some DataFull else None)
  limit_of b e =
      may.refused ∙ ap (λ r. first_refusal ((option_map_or (λ class. nat_lt a.limit (data_size_of m a.by_id + m.data_size class)) r false, DataFull) ∷ [])) may.kind.class_is
      ∙ ap (λ (t : Bool). if t then Some DataFull else None) e

  pub add_full : a.limit < data_size_of m a.by_id + m.data_size class → first_refusal (refusals_of_add m a parent kit number name config) ≡ Some DataFull
  add_full lt = limit_of true (grind (arith, nat_tests))

  pub add_fits : (a.limit < data_size_of m a.by_id + m.data_size class → ⊥) → first_refusal (refusals_of_add m a parent kit number name config) ≡ None
  add_fits out = limit_of false (by_lt (cases_lt a.limit (data_size_of m a.by_id + m.data_size class)))
    where
      by_lt : (a.limit < data_size_of m a.by_id + m.data_size class) ⊎ (data_size_of m a.by_id + m.data_size class ≤ a.limit) → nat_lt a.limit (data_size_of m a.by_id + m.data_size class) ≡ false
      by_lt (inl lt) = absurd (out lt)
      by_lt (inr le) = grind (arith, nat_tests)

  -- once it has grown, its `start` is called
  pub add_done : (n : Meaning) (mid after : Components) (id turns : ℕ) (moment : ℤ) → n ≡ m → id ≡ least_free a.by_id
      → mid ≡ with_components a (added m a.by_id id parent class new (taken (config_types m class) config)) → after ≡ (Call n mid id Start 0 turns moment).left
      → after ≡ (after_add m a parent (class_or_none m kit number) name config turns moment).left
  add_done n mid after id turns moment same least grown is =
      is ∙ ap (λ (x : Meaning). (Call x mid id Start 0 turns moment).left) same
      ∙ ap (λ (x : Components). (Call m x id Start 0 turns moment).left) grown
      ∙ ap (λ (k : ℕ). (Call m (with_components a (added m a.by_id k parent class new (taken (config_types m class) config))) k Start 0 turns moment).left) least
      ∙ ap (λ (x : List ℕ). (Call m (with_components a (added m a.by_id (least_free a.by_id) parent class x (taken (config_types m class) config))) (least_free a.by_id) Start 0 turns moment).left) may.child.same
      ∙ ap (λ (k : ℕ). (after_add m a parent k name config turns moment).left) (sym (ap (λ r. option_map_or (λ (class : ℕ). class) r 0) may.kind.class_is))

pub same_refusal : {A : Type 0} (r q : Refusal) → ◌≡◌ {A = Result A Refusal} (Err r) (Err q) → r ≡ q
same_refusal r q e = cc
