-- What is a tree is rooted, and stands nowhere deeper than a tree may; and a tree told by the same functions is one.
use Rattle.std.proofs.Common.{ℕ, ◌≡◌, ◌<◌, ◌≤◌, sym, ◌∙◌, ap, subst, arith}
use Rattle.std.specs.Prelude.{Option, Some, None, IfSome, IsTrue, List, nat_eq}
use Rattle.std.specs.List.{Contains, IsDistinct}
use Rattle.std.specs.FinMap as map
use Rattle.comp_tree.specs.Application.{ById, Component, children_of, greatest_depth, is_live, most_components, parent_of}
use Rattle.comp_tree.specs.Order.{depth}
use Rattle.comp_tree.specs.Parts.{no_id}
use Rattle.comp_tree.specs.Shape.{IsRooted, IsTree, up_by}
use Rattle.comp_tree.specs.Whole.{Each}
use Rattle.comp_tree.proofs.DepthLemmas.{depth_is}

abbrev pub IsTreeOf : ById → Type 0
IsTreeOf all = IsTree (is_live all) (parent_of all) (children_of all)

pub tree_rooted : (all : ById) → IsTreeOf all → IsRooted (is_live all) (parent_of all) (children_of all)
tree_rooted all tree = record {
  app = tree.app;
  root = tree.root;
  up = tree.up;
  down = tree.down;
  once = tree.once;
  known = tree.known;
  reached = λ id live. let w = tree.within id live in (w.0, w.2);
}

pub tree_depths : (all : ById) → IsTreeOf all → (id : ℕ) → IsTrue (is_live all id) → depth all id ≤ greatest_depth
tree_depths all tree id live =
    let w = tree.within id live in
    let few : w.0 ≤ 16 = w.1 in
    let deep : depth all id ≡ w.0 = depth_is (parent_of all) 17 w.0 id tree.root (omega (arith, few)) w.2 in
    omega (arith, deep, few)

pub same_tree : (first later : ById) → ((q : ℕ) → is_live later q ≡ is_live first q) → ((q : ℕ) → parent_of later q ≡ parent_of first q) → ((q : ℕ) → children_of later q ≡ children_of first q) → IsTreeOf first → IsTreeOf later
same_tree first later live parent children tree = record {
  app = live 0 ∙ tree.app;
  root = parent 0 ∙ tree.root;
  up = λ id above e. subst (λ (ids : List ℕ). Contains ids id) (sym (children above)) (tree.up id above (sym (parent id) ∙ e));
  down = λ id above h. parent id ∙ tree.down id above (subst (λ (ids : List ℕ). Contains ids id) (children above) h);
  once = λ above. subst (IsDistinct nat_eq) (sym (children above)) (tree.once above);
  known = λ id above e. live id ∙ tree.known id above (sym (parent id) ∙ e);
  within = λ id h.
      let w = tree.within id (sym (live id) ∙ h) in
      (w.0, w.1, ap (λ (p : ℕ → Option ℕ). up_by p w.0 id) (λ i q. parent q i) ∙ w.2);
}

-- ids below the limit are none that ends a list
pub ids_end : (all : ById) → Each all (λ id c. id < most_components) → Each all (λ id c. id < no_id)
ids_end all below id = by_component (map.get all id) (below id)
  where
    by_component : (r : Option Component) → IfSome r (λ (c : Component). id < most_components) → IfSome r (λ (c : Component). id < no_id)
    by_component None below = tt
    by_component (Some c) below = omega (arith, below)
