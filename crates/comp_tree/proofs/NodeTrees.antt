-- The tree that nodes are in, after a change of some.
use Rattle.std.proofs.Common.{ℕ, suc, ◌≡◌, ◌≢◌, ◌≤◌, inl, inr, true, false, List, [], ◌∷◌, ◌++◌, refl, sym, ◌∙◌, ap, subst, arith}
use Rattle.std.specs.Prelude.{Option, Some, None, IfSome, is_some, nat_eq}
use Rattle.std.specs.Option.{option_and_then, option_map, option_map_or}
use Rattle.std.specs.FinMap as map
use Rattle.std.specs.List.{Contains, IsDistinct}
use Rattle.std.specs.Ordering.{nat_cmp}
use Rattle.std.proofs.lemmas.Bool.{cases_eq}
use Rattle.sed_value.specs.declared.id.Id.{Id}
use Rattle.node_table.specs.declared.node.Node.{Node}
use Rattle.node_table.specs.Changed.{with_children}
use Rattle.comp_tree.specs.Held.{IsTreeOf, Nodes, children_in, parent_in}
use Rattle.comp_tree.specs.Refusals.{are_each_once}
use Rattle.comp_tree.specs.Shape.{IsTree, up_by}
use Rattle.comp_tree.proofs.MapLemmas.{get_beside, get_put, put_back}
use Rattle.comp_tree.proofs.ShapeLemmas.{In, in_from, once_from, once_to}
use Rattle.comp_tree.proofs.ShapeSteps.{Reordered, reordered, tree_more, tree_reordered}

-- what is told of every node alike is told of the changed nodes alike
pub alike_at : {A : Type 0} (F : Option Node → A) (nodes : Nodes) (id : ℕ) (n k : Node) → map.get nodes id ≡ Some n → F (Some n) ≡ F (Some k) → (q : ℕ) → F (map.get nodes q) ≡ F (map.get (map.insert nodes id k) q)
alike_at F nodes id n k found same q = elim (cases_eq q id) [
  | inl e ↦
      ap (λ (p : ℕ). F (map.get nodes p)) e ∙ ap F found ∙ same ∙ ap F (sym (get_put nodes id k))
      ∙ ap (λ (p : ℕ). F (map.get (map.insert nodes id k) p)) (sym e)
  | inr ne ↦ ap F (sym (get_beside nodes id k q ne))
]

-- a node that is taken out, changed and put back
pub back_is : (nodes gone after : Nodes) (id : ℕ) (n : Node) (change : Node → Node) → gone ≡ map.remove nodes id → map.get nodes id ≡ Some n → after ≡ map.insert gone id (change n)
    → IfSome (map.get nodes id) (λ k. after ≡ map.insert nodes id (change k))
back_is nodes gone after id n change removed found is =
    subst (λ (r : Option Node). IfSome r (λ k. after ≡ map.insert nodes id (change k))) (sym found) (is ∙ ap (λ (m : Nodes). map.insert m id (change n)) removed ∙ put_back nodes id (change n))

up_of : Option Node → Option ℕ
up_of r = option_and_then (λ (n : Node). option_map (λ (i : Id). i.0) n.parent) r

down_of : Option Node → List ℕ
down_of r = option_map_or (λ (n : Node). n.children) r []

module _ (nodes : Nodes) (id : ℕ) (n k : Node) (found : map.get nodes id ≡ Some n) (parent : k.parent ≡ n.parent) where
  live_alike : map.contains_key nodes ≡ map.contains_key (map.insert nodes id k)
  live_alike = λ i q. alike_at is_some nodes id n k found refl q i

  parent_alike : parent_in nodes ≡ parent_in (map.insert nodes id k)
  unfolding up_of
  parent_alike = λ i q. alike_at up_of nodes id n k found (ap (option_map (λ (i : Id). i.0)) (sym parent)) q i

  with_alike : IsTree (map.contains_key nodes) (parent_in nodes) (children_in (map.insert nodes id k)) → IsTreeOf (map.insert nodes id k)
  with_alike tree =
      subst (λ live. IsTree live (parent_in (map.insert nodes id k)) (children_in (map.insert nodes id k))) live_alike
      (subst (λ up. IsTree (map.contains_key nodes) up (children_in (map.insert nodes id k))) parent_alike tree)

  -- a node with the same parent and children
  pub tree_alike : k.children ≡ n.children → IsTreeOf nodes → IsTreeOf (map.insert nodes id k)
  unfolding down_of
  tree_alike children tree =
      let same : children_in nodes ≡ children_in (map.insert nodes id k) = λ i q. alike_at down_of nodes id n k found (sym children) q i in
      with_alike (subst (IsTree (map.contains_key nodes) (parent_in nodes)) same tree)

  children_there : children_in nodes id ≡ n.children
  children_there = ap (λ r. option_map_or (λ (n : Node). n.children) r []) found

  children_new : children_in (map.insert nodes id k) id ≡ k.children
  children_new = ap (λ r. option_map_or (λ (n : Node). n.children) r []) (get_put nodes id k)

  -- a node whose children stand in another order
  pub tree_order : are_each_once n.children k.children ≡ true → IsTreeOf nodes → IsTreeOf (map.insert nodes id k)
  unfolding down_of
  tree_order each tree =
      let once = once_from n.children (subst (IsDistinct nat_eq) children_there (tree.once id)) in
      with_alike (tree_reordered (map.contains_key nodes) (parent_in nodes) (children_in nodes) tree (children_in (map.insert nodes id k)) id
      (subst (λ olds. Reordered olds (children_in (map.insert nodes id k) id)) (sym children_there) (subst (Reordered n.children) (sym children_new) (reordered n.children k.children once each)))
      (λ x ne. ap (λ r. option_map_or (λ (n : Node). n.children) r []) (get_beside nodes id k x ne)))

-- one node more, the last child of its parent
module _ (nodes : Nodes) (tree : IsTreeOf nodes) (at new : ℕ) (above k : Node) (up : Id) (found : map.get nodes at ≡ Some above) (free : map.get nodes new ≡ None)
    (parent : k.parent ≡ Some up) (is_up : up.0 ≡ at) (none : k.children ≡ []) (steps : ℕ) (few : suc steps ≤ 16) (rooted : up_by (parent_in nodes) steps at ≡ Some 0) where
  apart : at ≢ new
  apart same = let no : ◌≡◌ {A = Option Node} None (Some above) = sym free ∙ ap (map.get nodes) (sym same) ∙ found in cc

  grown : Nodes
  grown = map.insert nodes at (with_children (above.children ++ new ∷ []) above)

  -- what is told of other nodes
  beside : {A : Type 0} (F : Option Node → A) → F (Some above) ≡ F (Some (with_children (above.children ++ new ∷ []) above)) → (x : ℕ) → x ≢ new
      → F (map.get (map.insert (map.insert nodes at (with_children (above.children ++ new ∷ []) above)) new k) x) ≡ F (map.get nodes x)
  beside F same x ne =
      ap F (get_beside (map.insert nodes at (with_children (above.children ++ new ∷ []) above)) new k x ne)
      ∙ sym (alike_at F nodes at above (with_children (above.children ++ new ∷ []) above) found same x)

  pub tree_with : IsTreeOf (map.insert (map.insert nodes at (with_children (above.children ++ new ∷ []) above)) new k)
  unfolding up_of
  tree_with =
      tree_more (map.contains_key nodes) (parent_in nodes) (children_in nodes) tree
      (map.contains_key (map.insert (map.insert nodes at (with_children (above.children ++ new ∷ []) above)) new k))
      (parent_in (map.insert (map.insert nodes at (with_children (above.children ++ new ∷ []) above)) new k))
      (children_in (map.insert (map.insert nodes at (with_children (above.children ++ new ∷ []) above)) new k))
      new at (ap is_some free) steps few rooted
      (ap is_some (get_put (map.insert nodes at (with_children (above.children ++ new ∷ []) above)) new k))
      (λ x ne. beside is_some refl x ne)
      (ap up_of (get_put (map.insert nodes at (with_children (above.children ++ new ∷ []) above)) new k) ∙ ap (option_map (λ (i : Id). i.0)) parent ∙ ap Some is_up)
      (λ x ne. beside up_of refl x ne)
      (ap (λ r. option_map_or (λ (n : Node). n.children) r []) (get_beside (map.insert nodes at (with_children (above.children ++ new ∷ []) above)) new k at apart
      ∙ get_put nodes at (with_children (above.children ++ new ∷ []) above)) ∙ ap (λ (xs : List ℕ). xs ++ new ∷ []) (sym (ap (λ r. option_map_or (λ (n : Node). n.children) r []) found)))
      (ap (λ r. option_map_or (λ (n : Node). n.children) r []) (get_put (map.insert nodes at (with_children (above.children ++ new ∷ []) above)) new k) ∙ none)
      (λ x ne_at ne_new. ap (λ r. option_map_or (λ (n : Node). n.children) r [])
      (get_beside (map.insert nodes at (with_children (above.children ++ new ∷ []) above)) new k x ne_new ∙ get_beside nodes at (with_children (above.children ++ new ∷ []) above) x ne_at))

-- the App's node alone
module _ (nodes : Nodes) (n : Node) (empty : nodes ≡ map.empty) (parent : n.parent ≡ None) (children : n.children ≡ []) where
  elsewhere : (q : ℕ) → q ≢ 0 → map.get (map.insert nodes 0 n) q ≡ None
  elsewhere q ne = get_beside nodes 0 n q ne ∙ ap (λ (m : Nodes). map.get m q) empty ∙ map.get-empty nat_cmp q

  childless : (q : ℕ) → children_in (map.insert nodes 0 n) q ≡ []
  childless q = elim (cases_eq q 0) [
    | inl e ↦ ap (children_in (map.insert nodes 0 n)) e ∙ ap (λ r. option_map_or (λ (n : Node). n.children) r []) (get_put nodes 0 n) ∙ children
    | inr ne ↦ ap (λ r. option_map_or (λ (n : Node). n.children) r []) (elsewhere q ne)
  ]

  orphan : (q : ℕ) → parent_in (map.insert nodes 0 n) q ≡ None
  orphan q = elim (cases_eq q 0) [
    | inl e ↦
        ap (parent_in (map.insert nodes 0 n)) e ∙ ap (λ r. option_and_then (λ (n : Node). option_map (λ (i : Id). i.0) n.parent) r) (get_put nodes 0 n)
        ∙ ap (option_map (λ (i : Id). i.0)) parent
    | inr ne ↦ ap (λ r. option_and_then (λ (n : Node). option_map (λ (i : Id). i.0) n.parent) r) (elsewhere q ne)
  ]

  no_parent : (id above : ℕ) → parent_in (map.insert nodes 0 n) id ≡ Some above → ⊥
  no_parent id above e = let no : ◌≡◌ {A = Option ℕ} None (Some above) = sym (orphan id) ∙ e in cc

  no_child : (id above : ℕ) → Contains (children_in (map.insert nodes 0 n) above) id → ⊥
  no_child id above h = subst (In id) (childless above) (in_from (children_in (map.insert nodes 0 n) above) id h)

  alone : (id : ℕ) → map.contains_key (map.insert nodes 0 n) id ≡ true → id ≡ 0
  alone id h = elim (cases_eq id 0) [ inl e ↦ e | inr ne ↦ absurd (let no : false ≡ true = sym (ap is_some (elsewhere id ne)) ∙ h in cc) ]

  pub tree_first : IsTreeOf (map.insert nodes 0 n)
  tree_first = record {
    app = ap is_some (get_put nodes 0 n);
    root = orphan 0;
    up = λ id above e. absurd (no_parent id above e);
    down = λ id above h. absurd (no_child id above h);
    once = λ above. subst (IsDistinct nat_eq) (sym (childless above)) (once_to [] tt);
    known = λ id above e. absurd (no_parent id above e);
    within = λ id h. (0, omega arith, ap Some (alone id h));
  }
