-- A tree is walked from the App down: each id that is live is reached, once.
use Rattle.std.proofs.Common.{ℕ, zero, suc, ◌≡◌, ◌↔◌, ◌<◌, ◌≤◌, inl, inr, refl, sym, ◌∙◌, ap, subst, arith}
use Rattle.std.specs.Prelude.{IsTrue, List, nat_eq, Some, None}
use Rattle.std.specs.List.{Contains, IsDistinct}
use Rattle.comp_tree.specs.Application.{ById, children_of, is_live, parent_of}
use Rattle.comp_tree.specs.Order.{depth, depth_first}
use Rattle.comp_tree.specs.Shape.{IsTree, down_by, up_by}
use Rattle.comp_tree.proofs.ShapeLemmas.{In, all_reached, flat_in, in_from, in_to, once_to, only_live, reached_once, up_next}
use Rattle.comp_tree.proofs.DepthLemmas.{depth_is}
use Rattle.comp_tree.proofs.SubtreeLemmas.{down_is}

listed : (all : ById) → depth_first all ≡ down_by (children_of all) 17 0
listed all = down_is all (children_of all) (λ q. refl) 17 0

pub walked_each : (all : ById) → IsTree (is_live all) (parent_of all) (children_of all) → (id : ℕ) → IsTrue (is_live all id) ↔ Contains (depth_first all) id
walked_each all tree id = (
  λ live. subst (λ (ids : List ℕ). Contains ids id) (sym (listed all)) (in_to (down_by (children_of all) 17 0) id (all_reached (is_live all) (parent_of all) (children_of all) tree id live)),
  λ there. only_live (is_live all) (parent_of all) (children_of all) tree id (in_from (down_by (children_of all) 17 0) id (subst (λ (ids : List ℕ). Contains ids id) (listed all) there)),
)

pub walked_once : (all : ById) → IsTree (is_live all) (parent_of all) (children_of all) → IsDistinct nat_eq (depth_first all)
walked_once all tree = subst (IsDistinct nat_eq) (sym (listed all)) (once_to (down_by (children_of all) 17 0) (reached_once (is_live all) (parent_of all) (children_of all) tree))

-- ---- of any components

module _ (all : ById) (names : (id up : ℕ) → Contains (children_of all up) id → parent_of all id ≡ Some up) where
  -- what stands below comes up in fewer steps than there are levels
  up_from : (k x id : ℕ) → In id (down_by (children_of all) k x) → (n : ℕ) × (n < k) × (up_by (parent_of all) n id ≡ Some x)
  unfolding down_by
  up_from zero x id never = absurd never
  up_from (suc k) x id (inl e) = (zero, omega arith, ap Some e)
  up_from (suc k) x id (inr h) =
      let c = flat_in (down_by (children_of all) k) id (children_of all x) h in
      let r = up_from k c.0 id c.2 in
      (suc r.0, let lt = r.1 in omega arith, up_next (parent_of all) r.0 id c.0 r.2 ∙ names c.0 x (in_to (children_of all x) c.0 c.1))

  pub shallow : parent_of all 0 ≡ None → (id : ℕ) → Contains (depth_first all) id → (n : ℕ) × (n ≤ 16) × (up_by (parent_of all) n id ≡ Some 0) × (depth all id ≡ n)
  shallow root id there =
      let r = up_from 17 0 id (in_from (down_by (children_of all) 17 0) id (subst (λ (ids : List ℕ). Contains ids id) (listed all) there)) in
      (r.0, let lt = r.1 in omega arith, r.2, depth_is (parent_of all) 17 r.0 id root (let lt = r.1 in omega arith) r.2)
