-- What one change of an engine and of the nodes does to the components that they stand for.
use Rattle.std.proofs.Common.{ℕ, ◌≡◌, ◌≢◌, inl, inr, refl, sym, ◌∙◌, ap, [], arith}
use Rattle.std.specs.Prelude.{Option, Some, None, ◌+◌}
use Rattle.std.specs.Option.{option_map, option_map_or}
use Rattle.std.specs.FinMap as map
use Rattle.std.specs.Cmp.{nat_cmp_total}
use Rattle.std.proofs.lemmas.Bool.{cases_eq}
use Rattle.sed_value.specs.declared.id.Id.{Id}
use Rattle.sed_typed.specs.Contents.{Contents}
use Rattle.sed_engine.specs.Code.{Meaning, Object, Places}
use Rattle.node_table.specs.declared.node.Node.{Node}
use Rattle.comp_tree.specs.Application.{Component, data_size_of}
use Rattle.comp_tree.specs.Held.{Nodes, IsPlaced, by_id_of, component_of}
use Rattle.comp_tree.proofs.MapLemmas.{get_put, get_beside, kept_beside, len_less, taken_out, len_over, len_more, some_is, get-map_values}
use Rattle.sed_value.proofs.Maps.{total_less, total_more, total_over}

-- the component with an id
pub get-by_id : (live : Places) (nodes : Nodes) (id : ℕ) → map.get (by_id_of live nodes) id ≡ option_map (component_of live) (map.get nodes id)
get-by_id live nodes id = get-map_values (component_of live) nodes id

-- the component of a node, with these contents
abbrev pub component_with : Node → Contents → Component
component_with n contents = record {
  class = n.kind.0;
  name = n.name;
  parent = option_map (λ (id : Id). id.0) n.parent;
  children = n.children;
  contents = contents;
  fault = n.fault;
}

-- an object put at a node's place, where no other node has it, and the node put under its id
pub by_id-put : (live : Places) (nodes : Nodes) (id : ℕ) (n : Node) (o : Object) → ((q : ℕ) (k : Node) → q ≢ id → map.get nodes q ≡ Some k → k.place.0 ≢ n.place.0) → by_id_of (map.insert live n.place.0 o) (map.insert nodes id n) ≡ map.insert (by_id_of live nodes) id (component_with n o.contents)
by_id-put live nodes id n o apart =
    let left : Places = map.insert live n.place.0 o in
    let there : component_of left n ≡ component_with n o.contents =
    ap (λ r. component_with n (option_map_or (λ (o : Object). o.contents) r [])) (get_put live n.place.0 o)
    in
    map.same_map nat_cmp_total map.nat_cmp-IsAntisymmetric _ _ (λ q.
    get-by_id left (map.insert nodes id n) q ∙ elim (cases_eq q id) [
      | inl e ↦
          ap (λ k. option_map (component_of left) (map.get (map.insert nodes id n) k)) e ∙ ap (option_map (component_of left)) (get_put nodes id n) ∙ ap Some there
          ∙ sym (get_put (by_id_of live nodes) id (component_with n o.contents)) ∙ ap (map.get (map.insert (by_id_of live nodes) id (component_with n o.contents))) (sym e)
      | inr ne ↦
          ap (option_map (component_of left)) (get_beside nodes id n q ne)
          ∙ elim (map.get nodes q) as (λ r. map.get nodes q ≡ r → option_map (component_of left) r ≡ option_map (component_of live) r) [
            | None ↦ λ h. refl
            | Some k ↦ λ h. ap (λ r. Some (component_with k (option_map_or (λ (o : Object). o.contents) r []))) (get_beside live n.place.0 o k.place.0 (apart q k ne h))
          ] refl
          ∙ sym (get-by_id live nodes q) ∙ sym (get_beside (by_id_of live nodes) id (component_with n o.contents) q ne)
    ])

module _ (m : Meaning) (live : Places) (nodes : Nodes) (was : IsPlaced m live nodes) (id : ℕ) where
  -- another place than that of the node with this id
  pub apart_from : (n : Node) → map.get nodes id ≡ Some n → (q : ℕ) (k : Node) → q ≢ id → map.get nodes q ≡ Some k → k.place.0 ≢ n.place.0
  apart_from n found q k ne h same = ne (was.apart q id k n h found same)

  -- a place that was not live is that of no node
  pub apart_from_new : (place : ℕ) → map.get live place ≡ None → (q : ℕ) (k : Node) → map.get nodes q ≡ Some k → k.place.0 ≢ place
  apart_from_new place free q k h same =
      let at = was.placed q k h in
      let no : ◌≡◌ {A = Option Object} None (Some at.0) = sym free ∙ ap (map.get live) (sym same) ∙ at.1 in
      cc

  module _ (n : Node) (o : Object) (class : o.class ≡ n.kind.0) (others : (q : ℕ) (k : Node) → q ≢ id → map.get nodes q ≡ Some k → k.place.0 ≢ n.place.0) where
    new_at : (q : ℕ) (x : Node) → q ≡ id → map.get (map.insert nodes id n) q ≡ Some x → n ≡ x
    new_at q x e h = some_is n x (sym (get_put nodes id n) ∙ ap (map.get (map.insert nodes id n)) (sym e) ∙ h)

    old_at : (q : ℕ) (x : Node) → q ≢ id → map.get (map.insert nodes id n) q ≡ Some x → map.get nodes q ≡ Some x
    old_at q x ne h = sym (get_beside nodes id n q ne) ∙ h

    placed_put : (q : ℕ) (x : Node) → map.get (map.insert nodes id n) q ≡ Some x → (y : Object) × (map.get (map.insert live n.place.0 o) x.place.0 ≡ Some y) × (y.class ≡ x.kind.0)
    placed_put q x h = elim (cases_eq q id) [
      | inl e ↦
          let is = new_at q x e h in
          (o, ap (λ (k : Node). map.get (map.insert live n.place.0 o) k.place.0) (sym is) ∙ get_put live n.place.0 o, class ∙ ap (λ (k : Node). k.kind.0) is)
      | inr ne ↦
          let old = old_at q x ne h in
          let at = was.placed q x old in
          (at.0, get_beside live n.place.0 o x.place.0 (others q x ne old) ∙ at.1, at.2)
    ]

    apart_put : (q r : ℕ) (x y : Node) → map.get (map.insert nodes id n) q ≡ Some x → map.get (map.insert nodes id n) r ≡ Some y → x.place.0 ≡ y.place.0 → q ≡ r
    apart_put q r x y h also same = elim (cases_eq q id) [
      | inl e ↦ elim (cases_eq r id) [
        | inl d ↦ e ∙ sym d
        | inr nd ↦ absurd (others r y nd (old_at r y nd also) (sym same ∙ ap (λ (k : Node). k.place.0) (sym (new_at q x e h))))
      ]
      | inr ne ↦ elim (cases_eq r id) [
        | inl d ↦ absurd (others q x ne (old_at q x ne h) (same ∙ ap (λ (k : Node). k.place.0) (sym (new_at r y d also))))
        | inr nd ↦ was.apart q r x y (old_at q x ne h) (old_at r y nd also) same
      ]
    ]

    new_size : data_size_of m (by_id_of (map.insert live n.place.0 o) (map.insert nodes id n)) ≡ data_size_of m (map.insert (by_id_of live nodes) id (component_with n o.contents))
    new_size = ap (data_size_of m) (by_id-put live nodes id n o others)

    -- the node and its object change, and keep their place and class
    pub placed_change : (before : Node) (p : Object) → map.get nodes id ≡ Some before → map.get live n.place.0 ≡ Some p → before.kind.0 ≡ n.kind.0 → p.class ≡ n.kind.0 → IsPlaced m (map.insert live n.place.0 o) (map.insert nodes id n)
    placed_change before p found at kind same = record {
      placed = placed_put;
      apart = apart_put;
      count = len_over live n.place.0 p o at ∙ was.count ∙ sym (len_over nodes id before n found);
      sizes =
          total_over (λ (x : Object). m.data_size x.class) live n.place.0 p o at (ap m.data_size (same ∙ sym class)) ∙ was.sizes
          ∙ sym (new_size ∙ total_over (λ (c : Component). m.data_size c.class) (by_id_of live nodes) id (component_of live before) (component_with n o.contents)
          (get-by_id live nodes id ∙ ap (option_map (component_of live)) found) (ap m.data_size kind));
    }

    -- a new node with a new object
    pub placed_add : map.get nodes id ≡ None → map.get live n.place.0 ≡ None → IsPlaced m (map.insert live n.place.0 o) (map.insert nodes id n)
    placed_add free fresh = record {
      placed = placed_put;
      apart = apart_put;
      count = len_more live n.place.0 o fresh ∙ ap (λ k. k + 1) was.count ∙ sym (len_more nodes id n free);
      sizes =
          total_more (λ (x : Object). m.data_size x.class) live n.place.0 o fresh ∙ ap (λ k. k + m.data_size o.class) was.sizes ∙ ap (λ k. data_size_of m (by_id_of live nodes) + m.data_size k) class
          ∙ sym (new_size ∙ total_more (λ (c : Component). m.data_size c.class) (by_id_of live nodes) id (component_with n o.contents) (get-by_id live nodes id ∙ ap (option_map (component_of live)) free));
    }

-- ---- a node and its object that go

module _ (m : Meaning) (live : Places) (nodes : Nodes) (was : IsPlaced m live nodes) (id : ℕ) (n : Node) (found : map.get nodes id ≡ Some n) where
  gone : map.get (map.remove nodes id) id ≡ None
  gone = taken_out nodes id

  pub by_id-remove : by_id_of (map.remove live n.place.0) (map.remove nodes id) ≡ map.remove (by_id_of live nodes) id
  by_id-remove =
      map.same_map nat_cmp_total map.nat_cmp-IsAntisymmetric _ _ (λ q.
      get-by_id (map.remove live n.place.0) (map.remove nodes id) q ∙ elim (cases_eq q id) [
        | inl e ↦
            ap (λ k. option_map (component_of (map.remove live n.place.0)) (map.get (map.remove nodes id) k)) e ∙ ap (option_map (component_of (map.remove live n.place.0))) gone
            ∙ sym (ap (map.get (map.remove (by_id_of live nodes) id)) e ∙ taken_out (by_id_of live nodes) id)
        | inr ne ↦
            ap (option_map (component_of (map.remove live n.place.0))) (kept_beside nodes id q ne)
            ∙ elim (map.get nodes q) as (λ r. map.get nodes q ≡ r → option_map (component_of (map.remove live n.place.0)) r ≡ option_map (component_of live) r) [
              | None ↦ λ h. refl
              | Some k ↦ λ h. ap (λ r. Some (component_with k (option_map_or (λ (o : Object). o.contents) r []))) (kept_beside live n.place.0 k.place.0 (λ same. ne (was.apart q id k n h found same)))
            ] refl
            ∙ sym (get-by_id live nodes q) ∙ sym (kept_beside (by_id_of live nodes) id q ne)
      ])

  still : (q : ℕ) (x : Node) → map.get (map.remove nodes id) q ≡ Some x → (q ≢ id) × (map.get nodes q ≡ Some x)
  still q x h = elim (cases_eq q id) [
    | inl e ↦ absurd (let no : ◌≡◌ {A = Option Node} None (Some x) = sym gone ∙ ap (map.get (map.remove nodes id)) (sym e) ∙ h in cc)
    | inr ne ↦ (ne, sym (kept_beside nodes id q ne) ∙ h)
  ]

  pub placed_remove : IsPlaced m (map.remove live n.place.0) (map.remove nodes id)
  placed_remove =
      let here = was.placed id n found in
      record {
        placed = λ q x h.
            let s = still q x h in
            let at = was.placed q x s.1 in
            (at.0, kept_beside live n.place.0 x.place.0 (λ same. s.0 (was.apart q id x n s.1 found same)) ∙ at.1, at.2);
        apart = λ q r x y h also same. was.apart q r x y (still q x h).1 (still r y also).1 same;
        count =
            let less = len_less live n.place.0 here.0 here.1 in
            let fewer = len_less nodes id n found in
            let count = was.count in omega arith;
        sizes =
            let less = total_less (λ (x : Object). m.data_size x.class) live n.place.0 here.0 here.1 in
            let fewer = total_less (λ (c : Component). m.data_size c.class) (by_id_of live nodes) id (component_of live n) (get-by_id live nodes id ∙ ap (option_map (component_of live)) found) in
            let size : data_size_of m (by_id_of (map.remove live n.place.0) (map.remove nodes id)) ≡ data_size_of m (map.remove (by_id_of live nodes) id) = ap (data_size_of m) by_id-remove in
            let one : m.data_size here.0.class ≡ m.data_size n.kind.0 = ap m.data_size here.2 in
            let sizes = was.sizes in omega arith;
      }
