-- Entries that are loaded, one after another, and the components that they come to.
use Rattle.std.proofs.Common.{ℕ, zero, suc, ◌≡◌, ◌≢◌, ◌+◌, ◌-◌, ◌<◌, ◌≤◌, inl, inr, Bool, true, false, cond, List, [], ◌∷◌, ◌++◌, length, map as map_list, take, get_or, refl, sym, ◌∙◌, ap, subst, arith}
use Rattle.std.proofs.lemmas.List.{length-map, length-take-le, map-append}
use Rattle.std.proofs.lemmas.Map.Steps.{length-le_from_distinct_below}
use Rattle.std.proofs.Math.Seq.{take-suc}
use Rattle.std.specs.Prelude.{Option, Some, None, IfSome, is_some, nat_eq, ◌||◌}
use Rattle.std.specs.FinMap as map
use Rattle.std.specs.FinMap.{find}
use Rattle.std.specs.List.{All, IsDistinct, list_any, zip}
use Rattle.std.specs.Option.{option_map}
use Rattle.std.specs.Ordering.{nat_cmp}
use Rattle.std.specs.Cmp.{nat_cmp_total}
use Rattle.std.proofs.lemmas.Bool.{cases_lt}
use Rattle.std.proofs.lemmas.Bool.Decides.{nat_tests}
use Rattle.sed_value.specs.declared.id.Id.{Id}
use Rattle.sed_value.specs.declared.value.Value.{Value}
use Rattle.sed_typed.specs.declared.number.TypeNo.{TypeNo}
use Rattle.sed_engine.specs.declared.call.Place.{Place}
use Rattle.sed_engine.specs.Code.{Meaning, Object, Places, new_object}
use Rattle.node_table.specs.Properties.{config_slots, with_slots}
use Rattle.node_table.specs.declared.node.Node.{Node}
use Rattle.comp_tree.specs.declared.loaded.Loaded.{Loaded}
use Rattle.comp_tree.specs.Application.{ById, Component, children_of, data_size_of, is_live, parent_of}
use Rattle.comp_tree.specs.Held.{IsPlaced, IsTreeOf, Nodes, by_id_of, children_in, component_of, parent_in}
use Rattle.comp_tree.specs.Loads.{IsToLoad, loaded, loaded_component}
use Rattle.comp_tree.specs.Shape.{IsTree}
use Rattle.comp_tree.proofs.AddLemmas.{class_kept, live_with}
use Rattle.comp_tree.proofs.DeleteLemmas.{parent_is as parent_same}
use Rattle.comp_tree.proofs.EditLemmas.{children_is, live_same}
use Rattle.comp_tree.proofs.HeldLemmas.{apart_from_new, by_id-put, component_with, get-by_id, placed_add}
use Rattle.comp_tree.proofs.MapLemmas.{len-map_values, tied_apart}
use Rattle.comp_tree.proofs.ShapeLemmas.{In, Once, once_from}
use Rattle.sed_value.proofs.Maps.{total_more}

-- ---- the entry at a place

abbrev ids_of : List Loaded → List ℕ
ids_of es = map_list (λ (l : Loaded). l.id.0) es

pub entry_at : (es : List Loaded) (k : ℕ) → k < length es → (e : Loaded) × (e ≡ get_or es k e)
entry_at [] k lt = absurd (omega arith)
entry_at (y ∷ ys) zero lt = (y, refl)
entry_at (y ∷ ys) (suc k) lt = entry_at ys k (omega arith)

pub each_at : (P : Loaded → Type 0) (es : List Loaded) (k : ℕ) (e : Loaded) → All P es → k < length es → e ≡ get_or es k e → P e
each_at P es k e all lt is = subst P (sym is) (all k e lt)

pub all_loaded : (es : List Loaded) (k : ℕ) → length es ≤ k → take k es ≡ es
all_loaded [] zero le = refl
all_loaded [] (suc k) le = refl
all_loaded (y ∷ ys) zero le = absurd (omega arith)
all_loaded (y ∷ ys) (suc k) le = ap (λ (zs : List Loaded). y ∷ zs) (all_loaded ys k (omega arith))

next_entry : (es : List Loaded) (k : ℕ) (e : Loaded) → k < length es → e ≡ get_or es k e → take (k + 1) es ≡ take k es ++ e ∷ []
next_entry es k e lt is = (let s : k + 1 ≡ suc k = omega arith in ap (λ (n : ℕ). take n es) s) ∙ take-suc es k e lt ∙ ap (λ (x : Loaded). take k es ++ x ∷ []) (sym is)

-- ---- an id stands once

id_at : (es : List Loaded) (k : ℕ) (e : Loaded) → k < length es → e ≡ get_or es k e → In e.id.0 (ids_of es)
id_at [] k e lt is = absurd (omega arith)
id_at (y ∷ ys) zero e lt is = inl (ap (λ (l : Loaded). l.id.0) is)
id_at (y ∷ ys) (suc k) e lt is = inr (id_at ys k e (omega arith) is)

not_before : (es : List Loaded) (k : ℕ) (e : Loaded) → Once (ids_of es) → k < length es → e ≡ get_or es k e → In e.id.0 (ids_of (take k es)) → ⊥
not_before [] k e once lt is h = absurd (omega arith)
not_before (y ∷ ys) zero e once lt is h = h
not_before (y ∷ ys) (suc k) e once lt is (inl same) = once.0 (subst (λ (z : ℕ). In z (ids_of ys)) same (id_at ys k e (omega arith) is))
not_before (y ∷ ys) (suc k) e once lt is (inr h) = not_before ys k e once.1 (omega arith) is h

-- ---- the components of entries

module _ (m : Meaning) where
  abbrev pairs : List Loaded → List (ℕ × Component)
  pairs es = map_list (λ (l : Loaded). (l.id.0, loaded_component m l)) es

  none_there : (es : List Loaded) (q : ℕ) → (In q (ids_of es) → ⊥) → find nat_cmp q (pairs es) ≡ None
  none_there [] q out = refl
  none_there (e ∷ es) q out =
      ap (λ (b : Bool). cond b (Some (loaded_component m e)) (find nat_cmp q (pairs es))) (tied_apart q e.id.0 (λ same. out (inl same))) ∙ none_there es q (λ h. out (inr h))

  module _ (es : List Loaded) (once : IsDistinct nat_eq (ids_of es)) (k : ℕ) (e : Loaded) (lt : k < length es) (is : e ≡ get_or es k e) where
    unknown : find nat_cmp e.id.0 (pairs (take k es)) ≡ None
    unknown = none_there (take k es) e.id.0 (not_before es k e (once_from (ids_of es) once) lt is)

    pub not_yet : map.get (loaded m (take k es)) e.id.0 ≡ None
    not_yet = map.get-from_entries nat_cmp_total (pairs (take k es)) e.id.0 ∙ unknown

    pub loaded_next : loaded m (take (k + 1) es) ≡ map.insert (loaded m (take k es)) e.id.0 (loaded_component m e)
    loaded_next =
        ap (loaded m) (next_entry es k e lt is)
        ∙ ap (λ (ps : List (ℕ × Component)). map.from_entries {R = nat_cmp} ps) (map-append (λ (l : Loaded). (l.id.0, loaded_component m l)) (take k es) (e ∷ []))
        ∙ map.from_entries_push nat_cmp_total map.nat_cmp-IsAntisymmetric (pairs (take k es)) e.id.0 (loaded_component m e) unknown

    pub size_next : data_size_of m (loaded m (take (k + 1) es)) ≡ data_size_of m (loaded m (take k es)) + m.data_size e.kind.0
    size_next = ap (data_size_of m) loaded_next ∙ total_more (λ (c : Component). m.data_size c.class) (loaded m (take k es)) e.id.0 (loaded_component m e) not_yet

  -- the first of several entries have no more data than all
  front_by : (es : List Loaded) → IsDistinct nat_eq (ids_of es) → (j k : ℕ) → k + j ≡ length es → data_size_of m (loaded m (take k es)) ≤ data_size_of m (loaded m es)
  front_by es once zero k e =
      let same : data_size_of m (loaded m (take k es)) ≡ data_size_of m (loaded m es) = ap (λ (xs : List Loaded). data_size_of m (loaded m xs)) (all_loaded es k (omega arith)) in
      omega arith
  front_by es once (suc j) k e =
      let lt : k < length es = omega arith in
      let at = entry_at es k lt in
      let more = size_next es once k at.0 lt at.1 in
      let rest = front_by es once j (k + 1) (omega arith) in
      omega arith

  pub front_fits : (es : List Loaded) → IsDistinct nat_eq (ids_of es) → (k : ℕ) → k ≤ length es → data_size_of m (loaded m (take k es)) ≤ data_size_of m (loaded m es)
  front_fits es once k le = front_by es once (length es - k) k (omega arith)

  -- ---- how many there are

  len_step : (b : Bool) (n k : ℕ) → n ≤ k → cond b n (n + 1) ≤ suc k
  len_step true n k le = omega arith
  len_step false n k le = omega arith

  len_few : (es : List Loaded) → map.len (loaded m es) ≤ length es
  len_few [] = let none : map.len (loaded m []) ≡ 0 = map.len-empty nat_cmp Component in omega arith
  len_few (e ∷ es) =
      subst (λ (n : ℕ). n ≤ suc (length es)) (sym (map.len-insert nat_cmp_total (loaded m es) e.id.0 (loaded_component m e)))
      (len_step (is_some (map.get (loaded m es) e.id.0)) (map.len (loaded m es)) (length es) (len_few es))

  below_any : (es : List Loaded) → All (IsToLoad m) es → (q : ℕ) → list_any (nat_eq q) (ids_of es) ≡ true → q < 4096
  below_any [] all q any = absurd (let no = any in cc)
  below_any (e ∷ es) all q any = by_test (λ t. below_any es (λ k d lt. all (suc k) d (omega arith)) q t) (nat_eq q e.id.0) refl any
    where
      by_test : (list_any (nat_eq q) (ids_of es) ≡ true → q < 4096) → (b : Bool) → nat_eq q e.id.0 ≡ b → (b || list_any (nat_eq q) (ids_of es)) ≡ true → q < 4096
      by_test rest true same t = let few = (all 0 e (omega arith)).id in let eq : q ≡ e.id.0 = grind (arith, nat_tests) in omega arith
      by_test rest false apart t = rest t

  pub few_so_far : (es : List Loaded) → All (IsToLoad m) es → IsDistinct nat_eq (ids_of es) → (k : ℕ) → k < length es → (nodes : Nodes) (live : Places) → by_id_of live nodes ≡ loaded m (take k es) → map.len nodes < 4096
  few_so_far es all once k lt nodes live is =
      let most : length (ids_of es) ≤ 4096 = length-le_from_distinct_below (ids_of es) 4096 once (below_any es all) in
      let many : length (ids_of es) ≡ length es = length-map es (λ (l : Loaded). l.id.0) in
      let front : length (take k es) ≡ k = length-take-le k es (omega arith) in
      let few = len_few (take k es) in
      let same : map.len nodes ≡ map.len (loaded m (take k es)) = sym (len-map_values _ nodes) ∙ ap map.len is in
      omega arith

-- nodes whose components are one tree are one
pub loaded_tree : (live : Places) (nodes : Nodes) (all : ById) → by_id_of live nodes ≡ all → IsTree (is_live all) (parent_of all) (children_of all) → IsTreeOf nodes
loaded_tree live nodes all is tree =
    let there : IsTree (is_live (by_id_of live nodes)) (parent_of (by_id_of live nodes)) (children_of (by_id_of live nodes)) = subst (λ (a : ById). IsTree (is_live a) (parent_of a) (children_of a)) (sym is) tree in
    let lives : is_live (by_id_of live nodes) ≡ map.contains_key nodes = λ i q. live_same live nodes q i in
    let parents : parent_of (by_id_of live nodes) ≡ parent_in nodes = λ i q. parent_same live nodes q i in
    let children : children_of (by_id_of live nodes) ≡ children_in nodes = λ i q. children_is live nodes q i in
    subst (λ c. IsTree (map.contains_key nodes) (parent_in nodes) c) children
    (subst (λ p. IsTree (map.contains_key nodes) p (children_of (by_id_of live nodes))) parents
    (subst (λ l. IsTree l (parent_of (by_id_of live nodes)) (children_of (by_id_of live nodes))) lives there))

-- ---- one entry, step by step

module _ (m n : Meaning) (live mid left : Places) (nodes after : Nodes) (was : IsPlaced m live nodes) (e : Loaded) (place : Place) (k : Node)
    (fresh : map.get live place.0 ≡ None) (added : mid ≡ map.insert live place.0 (new_object m e.kind.0)) (meaning : n ≡ m)
    (values : List Value) (values_are : values ≡ e.config) (stored : IfSome (map.get mid place.0) (λ o. left ≡ map.insert mid place.0 (with_slots n (zip (config_slots n e.kind.0) values) o)))
    (free : map.get nodes e.id.0 ≡ None) (put : after ≡ map.insert nodes e.id.0 k)
    (kind_is : k.kind ≡ e.kind) (name_is : k.name ≡ e.name) (parent_is : k.parent ≡ e.parent) (children_are : k.children ≡ map_list (λ (id : Id). id.0) e.children) (fault_is : k.fault ≡ 0) (place_is : k.place ≡ place) where
  object : Object
  object = with_slots m (zip (config_slots m e.kind.0) e.config) (new_object m e.kind.0)

  left_is : left ≡ map.insert live k.place.0 object
  unfolding object
  left_is =
      live_with m n live mid left place.0 e.kind.0 (λ x. zip (config_slots x e.kind.0) values) added meaning stored
      ∙ ap (λ (config : List Value). map.insert live place.0 (with_slots m (zip (config_slots m e.kind.0) config) (new_object m e.kind.0))) values_are
      ∙ ap (λ (p : Place). map.insert live p.0 object) (sym place_is)

  class_is : object.class ≡ k.kind.0
  unfolding object
  class_is = class_kept m (zip (config_slots m e.kind.0) e.config) (new_object m e.kind.0) ∙ ap (λ (t : TypeNo). t.0) (sym kind_is)

  fresh_there : map.get live k.place.0 ≡ None
  fresh_there = ap (λ (p : Place). map.get live p.0) place_is ∙ fresh

  others : (q : ℕ) (x : Node) → q ≢ e.id.0 → map.get nodes q ≡ Some x → x.place.0 ≢ k.place.0
  others q x ne h = apart_from_new m live nodes was e.id.0 k.place.0 fresh_there q x h

  pub one_placed : IsPlaced n left after
  one_placed =
      subst (λ (x : Meaning). IsPlaced x left after) (sym meaning) (subst (λ (l : Places). IsPlaced m l after) (sym left_is) (subst (IsPlaced m (map.insert live k.place.0 object)) (sym put)
      (placed_add m live nodes was e.id.0 k object class_is others free fresh_there)))

  pub one_by_id : by_id_of left after ≡ map.insert (by_id_of live nodes) e.id.0 (loaded_component m e)
  unfolding object
  one_by_id =
      let same : component_with k object.contents ≡ loaded_component m e = λ i. record {
        class = (kind_is i).0;
        name = name_is i;
        parent = option_map (λ (id : Id). id.0) (parent_is i);
        children = children_are i;
        contents = object.contents;
        fault = fault_is i;
      } in
      ap (λ l. by_id_of l after) left_is ∙ ap (by_id_of (map.insert live k.place.0 object)) put ∙ by_id-put live nodes e.id.0 k object others
      ∙ ap (map.insert (by_id_of live nodes) e.id.0) same

-- ---- the loop

pub free_below : (live : Places) (nodes : Nodes) (id : ℕ) (all : ById) → by_id_of live nodes ≡ all → map.get all id ≡ None → map.get nodes id ≡ None
free_below live nodes id all is none = by_node (map.get nodes id) (sym (get-by_id live nodes id) ∙ ap (λ (a : ById). map.get a id) is ∙ none)
  where
    by_node : (r : Option Node) → option_map (component_of live) r ≡ None → r ≡ None
    by_node None e = refl
    by_node (Some n) e = absurd (let no = ap is_some e in cc)

pub not_less : (a b : ℕ) → (a < b → ⊥) → b ≤ a
not_less a b out = elim (cases_lt a b) [ inl lt ↦ absurd (out lt) | inr le ↦ le ]

-- what one more entry passes, all pass
module _ (m n : Meaning) (live : Places) (nodes : Nodes) (es : List Loaded) (once : IsDistinct nat_eq (ids_of es)) (k : ℕ) (e : Loaded) (lt : k < length es) (is : e ≡ get_or es k e)
    (same : n ≡ m) (all : by_id_of live nodes ≡ loaded m (take k es)) (limit before : ℕ) (limits : limit ≡ before) where
  pub passes_all : limit < data_size_of n (by_id_of live nodes) + n.data_size e.kind.0 → before < data_size_of m (loaded m es)
  passes_all passed =
      let here : limit < data_size_of m (by_id_of live nodes) + m.data_size e.kind.0 = subst (λ (x : Meaning). limit < data_size_of x (by_id_of live nodes) + x.data_size e.kind.0) same passed in
      let there : limit < data_size_of m (loaded m (take k es)) + m.data_size e.kind.0 = subst (λ (a : ById). limit < data_size_of m a + m.data_size e.kind.0) all here in
      let next = size_next m es once k e lt is in
      let front = front_fits m es once (k + 1) (omega arith) in
      omega arith

  pub fits_next : (limit < data_size_of n (by_id_of live nodes) + n.data_size e.kind.0 → ⊥) → data_size_of m (loaded m (take (k + 1) es)) ≤ before
  fits_next out =
      let le : data_size_of n (by_id_of live nodes) + n.data_size e.kind.0 ≤ limit = not_less limit (data_size_of n (by_id_of live nodes) + n.data_size e.kind.0) out in
      let here : data_size_of m (by_id_of live nodes) + m.data_size e.kind.0 ≤ limit = subst (λ (x : Meaning). data_size_of x (by_id_of live nodes) + x.data_size e.kind.0 ≤ limit) same le in
      let there : data_size_of m (loaded m (take k es)) + m.data_size e.kind.0 ≤ limit = subst (λ (a : ById). data_size_of m a + m.data_size e.kind.0 ≤ limit) all here in
      let next = size_next m es once k e lt is in
      omega arith

  pub by_id_next : (left : Places) (after : Nodes) → by_id_of left after ≡ map.insert (by_id_of live nodes) e.id.0 (loaded_component n e) → by_id_of left after ≡ loaded m (take (k + 1) es)
  by_id_next left after put =
      put ∙ ap (λ (a : ById). map.insert a e.id.0 (loaded_component n e)) all ∙ ap (λ (x : Meaning). map.insert (loaded m (take k es)) e.id.0 (loaded_component x e)) same ∙ sym (loaded_next m es once k e lt is)
