-- What a delete does to the marks.
use Rattle.std.proofs.Common.{ℕ, ◌≡◌, ◌<◌, ◌⊎◌, inl, inr, Bool, true, false, List, [], length, get_or, refl, sym, ◌∙◌, ap, subst}
use Rattle.std.proofs.lemmas.Bool.{cases_eq}
use Rattle.std.specs.Prelude.{Option, Some, None, IfSome, IsTrue, is_some, ◌==◌, if◌then◌else◌}
use Rattle.std.specs.Option.{option_map_or}
use Rattle.std.specs.List.{list_any}
use Rattle.std.specs.FinMap as map
use Rattle.sed_engine.specs.declared.engine.Engine.{Ghosts}
use Rattle.sed_engine.specs.Code.{Meaning}
use Rattle.node_table.specs.Changed.{with_children as node_children}
use Rattle.node_table.specs.declared.node.Node.{Node}
use Rattle.comp_tree.specs.Application.{ById, Component, change_at, is_live, parent_of}
use Rattle.comp_tree.specs.Edits.{removed, without_all, without_child}
use Rattle.comp_tree.specs.Held.{Held, Nodes, components_of}
use Rattle.comp_tree.specs.Marks.{KeepsMarks, Part, all_parts, bytes_of, is_among, marks_in, no_parts, only, part_at, parts_at, tree_above, tree_parts, value_parts, values_of_all, with_parts}
use Rattle.comp_tree.specs.Order.{subtree}
use Rattle.comp_tree.proofs.EditLemmas.{live_same, of_found}
use Rattle.comp_tree.proofs.MapLemmas.{get_beside, get_put}
use Rattle.comp_tree.proofs.MarkCalls.{keeps_step, part_change, tree_alone}
use Rattle.comp_tree.proofs.MarkSteps.{among_none, marks_changed, only_beside, only_here, touched_here}
use Rattle.comp_tree.proofs.ShapeLemmas.{In}
use Rattle.comp_tree.proofs.SubtreeLemmas.{at_in, get_gone, get_stays, is_in, is_out}

-- ---- those that are called

pub values_of_next : (ids : List ℕ) (k x : ℕ) → k < length ids → x ≡ get_or ids k x → (q : ℕ) (part : Part) → (is_among part (values_of_all ids q) ≡ true) ⊎ (is_among part (only x value_parts q) ≡ true) → is_among part (values_of_all ids q) ≡ true
values_of_next ids k x lt is q part (inl e) = e
values_of_next ids k x lt is q part (inr e) = elim (cases_eq q x) [
  | inl same ↦
      let there : list_any (λ other. other == q) ids ≡ true = is_in q ids (subst (λ (z : ℕ). In z ids) (sym same) (at_in ids k x lt is)) in
      ap (λ (b : Bool). is_among part (if b then value_parts else no_parts)) there ∙ sym (ap (is_among part) (only_here x value_parts q same)) ∙ e
  | inr ne ↦ absurd (let none = sym (ap (is_among part) (only_beside x value_parts q ne) ∙ among_none part) ∙ e in cc)
]

pub none_of_others : (ids : List ℕ) (q : ℕ) (part : Part) → (In q ids → ⊥) → is_among part (values_of_all ids q) ≡ true → ⊥
none_of_others ids q part out e =
    let none = sym (ap (λ (b : Bool). is_among part (if b then value_parts else no_parts)) (is_out q ids out) ∙ among_none part) ∙ e in cc

-- ---- those that go

change_live : (all : ById) (at : ℕ) (change : Component → Component) (q : ℕ) → is_live (change_at all at change) q ≡ is_live all q
change_live all at change q = by_component (map.get all at) refl
  where
    by_component : (r : Option Component) → map.get all at ≡ r → is_live (option_map_or (λ (c : Component). map.insert all at (change c)) r all) q ≡ is_live all q
    by_component None e = refl
    by_component (Some c) e = elim (cases_eq q at) [
      | inl same ↦ ap (is_live (map.insert all at (change c))) same ∙ ap is_some (get_put all at (change c)) ∙ sym (ap (is_live all) same ∙ ap is_some e)
      | inr ne ↦ ap is_some (get_beside all at (change c) q ne)
    ]

-- what is left was not among them
pub left_out : (ids : List ℕ) (all : ById) (q : ℕ) → IsTrue (is_live (without_all ids all) q) → In q ids → ⊥
left_out ids all q live here = let none = sym (ap is_some (get_gone ids all q here)) ∙ live in cc

module _ (all : ById) (id : ℕ) where
  without_one : ById
  without_one = option_map_or (λ (parent : ℕ). change_at all parent (without_child id)) (parent_of all id) all

  pub removed_live : (q : ℕ) → IsTrue (is_live (removed all id) q) → IsTrue (is_live all q)
  unfolding without_one
  removed_live q live =
      sym (by_parent (parent_of all id)) ∙ sym (ap is_some (get_stays (subtree all id) without_one q (left_out (subtree all id) without_one q live))) ∙ live
    where
      by_parent : (r : Option ℕ) → is_live (option_map_or (λ (parent : ℕ). change_at all parent (without_child id)) r all) q ≡ is_live all q
      by_parent None = refl
      by_parent (Some parent) = change_live all parent (without_child id) q

  pub removed_out : (q : ℕ) → IsTrue (is_live (removed all id) q) → In q (subtree all id) → ⊥
  unfolding without_one
  removed_out q live here = left_out (subtree all id) without_one q live here

  -- the parent's children aside, what is left has the bytes that it had
  pub part_removed : (m : Meaning) (q : ℕ) (part : Part) → IsTrue (is_live (removed all id) q) → is_among part (tree_above all id q) ≡ false → part_at m all q part ≡ part_at m (removed all id) q part
  unfolding without_one
  part_removed m q part live out =
      by_parent (parent_of all id) out ∙ sym (ap (λ r. option_map_or (bytes_of m part) r []) (get_stays (subtree all id) without_one q (left_out (subtree all id) without_one q live)))
    where
      by_parent : (r : Option ℕ) → is_among part (option_map_or (λ (parent : ℕ). only parent tree_parts q) r no_parts) ≡ false → part_at m all q part ≡ part_at m (option_map_or (λ (parent : ℕ). change_at all parent (without_child id)) r all) q part
      by_parent None out = refl
      by_parent (Some parent) out = part_change m all parent (without_child id) tree_parts (λ part c out. tree_alone m c (without_child id c) refl refl part out) q part out

module _ {E : Type 0} (g : Ghosts E) (before after : Held E) (meaning : g.meaning after.engine ≡ g.meaning before.engine) (id parent : ℕ) (above_is : parent_of (components_of g before).by_id id ≡ Some parent)
    (above : Node) (found : map.get before.nodes parent ≡ Some above) (left : List ℕ) (mid : Nodes) (mid_is : IfSome (map.get before.nodes parent) (λ n. mid ≡ map.insert before.nodes parent (node_children left n)))
    (ids : List ℕ) (nodes_are : after.nodes ≡ without_all ids mid) (ids_are : ids ≡ subtree (components_of g before).by_id id) (is : (components_of g after).by_id ≡ removed (components_of g before).by_id id) where
  pub keeps_cut : KeepsMarks g (tree_above (components_of g before).by_id id) before after
  keeps_cut =
      let all = (components_of g before).by_id in
      keeps_step g (tree_above all id) before after meaning (removed all id) is
      (λ q at live.
      let there : is_some (map.get after.nodes q) ≡ true = sym (live_same (g.live after.engine) after.nodes q) ∙ live in
      let out : In q ids → ⊥ = λ h. let none = sym (ap (λ (n : Nodes). is_some (map.get n q)) nodes_are ∙ ap is_some (get_gone ids mid q h)) ∙ there in cc in
      ap (λ r. option_map_or (λ (n : Node). parts_at n.marks at) r all_parts) (ap (λ (n : Nodes). map.get n q) nodes_are ∙ get_stays ids mid q out)
      ∙ marks_changed before.nodes parent (node_children left above) tree_parts above mid found (touched_here tree_parts above.marks) (of_found _ above (λ n. mid ≡ map.insert before.nodes parent (node_children left n)) found mid_is) q at
      ∙ ap (λ (r : Option ℕ). with_parts (option_map_or (λ (p : ℕ). only p tree_parts q) r no_parts) (marks_in before.nodes q at)) (sym above_is))
      (λ q part live out. part_removed all id (g.meaning before.engine) q part (sym (ap (λ (x : ById). is_live x q) is) ∙ live) out)
