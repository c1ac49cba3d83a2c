use Rattle.std.proofs.Common.{ℕ, List, ◌==◌, not, filter, sym, ap, subst, ◌∙◌}
use Rattle.std.specs.FinMap as map
use Rattle.comp_tree.specs.Application.{with_components}
use Rattle.comp_tree.specs.Edits.{removed}
use Rattle.comp_tree.specs.Held.{Held, by_id_of, components_of}
use Rattle.comp_tree.specs.Order.{subtree}
use Rattle.comp_tree.proofs.DeleteLemmas.{all_there, cut_held, cut_is, each_once, has_parent, parent_is, placed_mid, subtree_is}
use Rattle.comp_tree.proofs.EditLemmas.{live_same}
use Rattle.comp_tree.specs.Application.{Components}
use Rattle.comp_tree.specs.Marks.{KeepsMarks, tree_above}
use Rattle.comp_tree.proofs.MarkDelete.{keeps_cut}
use Rattle.comp_tree.proofs.tree.Tree.cut.Goals as goal

pub returns-in_default-clause-gone : goal.returns-in_default-clause-gone
returns-in_default-clause-gone g c =
    let i = c.self.inside in
    let there = sym (live_same (g.E.Engine.live i.engine) i.nodes c.args.id.0) ∙ ap (λ (x : Held _). map.contains_key (by_id_of (g.E.Engine.live x.engine) x.nodes) c.args.id.0) c.self.view_is ∙ c.requires.live in
    absurd (has_parent i.nodes c.self.invariant.tree c.args.id.0 there c.requires.below (sym c.in_default.ensures))

pub remove_each-requires-clause-placed : goal.remove_each-requires-clause-placed
remove_each-requires-clause-placed g c =
    let i = c.self.inside in
    let h : Held _ = record { engine = i.engine; nodes = i.nodes } in
    let there = sym (live_same (g.E.Engine.live i.engine) i.nodes c.args.id.0) ∙ ap (λ (x : Held _). map.contains_key (by_id_of (g.E.Engine.live x.engine) x.nodes) c.args.id.0) c.self.view_is ∙ c.requires.live in
    let are = c.requires.all ∙ sym (ap (λ (x : Held _). subtree (by_id_of (g.E.Engine.live x.engine) x.nodes) c.args.id.0) c.self.view_is) ∙ subtree_is (g.E.Engine.live i.engine) i.nodes c.args.id.0 in
    let left_is = c.children_without-left.ensures ∙ ap (λ (xs : List ℕ). filter (λ child. not (child == c.args.id.0)) xs) c.as_slice.ensures.same in
    placed_mid g.E.Engine h c.self.invariant c.args.id.0 c.in-Some.parent.0 there (sym c.in-Some.ensures) c.in-Some-get.above.now (sym c.in-Some-get.ensures) c.args.ids.now are c.children_without-left.result left_is
    c.reorder_node.new.nodes c.reorder_node.ensures

pub remove_each-requires-clause-there : goal.remove_each-requires-clause-there
remove_each-requires-clause-there g c =
    let i = c.self.inside in
    let h : Held _ = record { engine = i.engine; nodes = i.nodes } in
    let there = sym (live_same (g.E.Engine.live i.engine) i.nodes c.args.id.0) ∙ ap (λ (x : Held _). map.contains_key (by_id_of (g.E.Engine.live x.engine) x.nodes) c.args.id.0) c.self.view_is ∙ c.requires.live in
    let are = c.requires.all ∙ sym (ap (λ (x : Held _). subtree (by_id_of (g.E.Engine.live x.engine) x.nodes) c.args.id.0) c.self.view_is) ∙ subtree_is (g.E.Engine.live i.engine) i.nodes c.args.id.0 in
    let left_is = c.children_without-left.ensures ∙ ap (λ (xs : List ℕ). filter (λ child. not (child == c.args.id.0)) xs) c.as_slice.ensures.same in
    all_there g.E.Engine h c.self.invariant c.args.id.0 c.in-Some.parent.0 there (sym c.in-Some.ensures) c.in-Some-get.above.now (sym c.in-Some-get.ensures) c.args.ids.now are c.children_without-left.result left_is
    c.reorder_node.new.nodes c.reorder_node.ensures

pub remove_each-requires-clause-once : goal.remove_each-requires-clause-once
remove_each-requires-clause-once g c =
    let i = c.self.inside in
    let h : Held _ = record { engine = i.engine; nodes = i.nodes } in
    let there = sym (live_same (g.E.Engine.live i.engine) i.nodes c.args.id.0) ∙ ap (λ (x : Held _). map.contains_key (by_id_of (g.E.Engine.live x.engine) x.nodes) c.args.id.0) c.self.view_is ∙ c.requires.live in
    let are = c.requires.all ∙ sym (ap (λ (x : Held _). subtree (by_id_of (g.E.Engine.live x.engine) x.nodes) c.args.id.0) c.self.view_is) ∙ subtree_is (g.E.Engine.live i.engine) i.nodes c.args.id.0 in
    let left_is = c.children_without-left.ensures ∙ ap (λ (xs : List ℕ). filter (λ child. not (child == c.args.id.0)) xs) c.as_slice.ensures.same in
    each_once g.E.Engine h c.self.invariant c.args.id.0 c.in-Some.parent.0 there (sym c.in-Some.ensures) c.in-Some-get.above.now (sym c.in-Some-get.ensures) c.args.ids.now are c.children_without-left.result left_is
    c.reorder_node.new.nodes c.reorder_node.ensures

pub invariant_of-self : goal.invariant_of-self
invariant_of-self g c =
    let i = c.self.inside in
    let h : Held _ = record { engine = i.engine; nodes = i.nodes } in
    let there = sym (live_same (g.E.Engine.live i.engine) i.nodes c.args.id.0) ∙ ap (λ (x : Held _). map.contains_key (by_id_of (g.E.Engine.live x.engine) x.nodes) c.args.id.0) c.self.view_is ∙ c.requires.live in
    let are = c.requires.all ∙ sym (ap (λ (x : Held _). subtree (by_id_of (g.E.Engine.live x.engine) x.nodes) c.args.id.0) c.self.view_is) ∙ subtree_is (g.E.Engine.live i.engine) i.nodes c.args.id.0 in
    let left_is = c.children_without-left.ensures ∙ ap (λ (xs : List ℕ). filter (λ child. not (child == c.args.id.0)) xs) c.as_slice.ensures.same in
    cut_held g.E.Engine h c.self.invariant c.args.id.0 c.in-Some.parent.0 there (sym c.in-Some.ensures) c.in-Some-get.above.now (sym c.in-Some-get.ensures) c.args.ids.now are c.children_without-left.result left_is
    c.reorder_node.new.nodes c.reorder_node.ensures c.remove_each.new.nodes c.remove_each.new.engine c.remove_each.ensures.nodes c.remove_each.ensures.placed

pub returns-clause-gone : goal.returns-clause-gone
returns-clause-gone g c =
    let i = c.self.inside in
    let h : Held _ = record { engine = i.engine; nodes = i.nodes } in
    let there = sym (live_same (g.E.Engine.live i.engine) i.nodes c.args.id.0) ∙ ap (λ (x : Held _). map.contains_key (by_id_of (g.E.Engine.live x.engine) x.nodes) c.args.id.0) c.self.view_is ∙ c.requires.live in
    let are = c.requires.all ∙ sym (ap (λ (x : Held _). subtree (by_id_of (g.E.Engine.live x.engine) x.nodes) c.args.id.0) c.self.view_is) ∙ subtree_is (g.E.Engine.live i.engine) i.nodes c.args.id.0 in
    let left_is = c.children_without-left.ensures ∙ ap (λ (xs : List ℕ). filter (λ child. not (child == c.args.id.0)) xs) c.as_slice.ensures.same in
    cut_is g.E.Engine h c.self.invariant c.args.id.0 c.in-Some.parent.0 there (sym c.in-Some.ensures) c.in-Some-get.above.now (sym c.in-Some-get.ensures) c.args.ids.now are c.children_without-left.result left_is
    c.reorder_node.new.nodes c.reorder_node.ensures c.remove_each.new.nodes c.remove_each.new.engine c.remove_each.ensures.nodes c.remove_each.ensures.placed
    c.remove_each.ensures.by_id c.remove_each.ensures.statics c.remove_each.ensures.same.limit
    ∙ ap (λ (x : Held _). with_components (components_of g.E.Engine x) (removed (components_of g.E.Engine x).by_id c.args.id.0)) c.self.view_is

pub returns-clause-marks : goal.returns-clause-marks
returns-clause-marks g c =
    let i = c.self.inside in
    let h : Held _ = record { engine = i.engine; nodes = i.nodes } in
    let there = sym (live_same (g.E.Engine.live i.engine) i.nodes c.args.id.0) ∙ ap (λ (x : Held _). map.contains_key (by_id_of (g.E.Engine.live x.engine) x.nodes) c.args.id.0) c.self.view_is ∙ c.requires.live in
    let are = c.requires.all ∙ sym (ap (λ (x : Held _). subtree (by_id_of (g.E.Engine.live x.engine) x.nodes) c.args.id.0) c.self.view_is) ∙ subtree_is (g.E.Engine.live i.engine) i.nodes c.args.id.0 in
    let left_is = c.children_without-left.ensures ∙ ap (λ (xs : List ℕ). filter (λ child. not (child == c.args.id.0)) xs) c.as_slice.ensures.same in
    let is =
    cut_is g.E.Engine h c.self.invariant c.args.id.0 c.in-Some.parent.0 there (sym c.in-Some.ensures) c.in-Some-get.above.now (sym c.in-Some-get.ensures) c.args.ids.now are c.children_without-left.result left_is
    c.reorder_node.new.nodes c.reorder_node.ensures c.remove_each.new.nodes c.remove_each.new.engine c.remove_each.ensures.nodes c.remove_each.ensures.placed
    c.remove_each.ensures.by_id c.remove_each.ensures.statics c.remove_each.ensures.same.limit
    in
    let left : Held _ = record { engine = c.remove_each.new.engine; nodes = c.remove_each.new.nodes } in
    subst (λ (x : Held _). KeepsMarks g.E.Engine (tree_above (components_of g.E.Engine x).by_id c.args.id.0) x left) c.self.view_is
    (keeps_cut g.E.Engine h left c.remove_each.ensures.same.meaning c.args.id.0 c.in-Some.parent.0 (parent_is (g.E.Engine.live i.engine) i.nodes c.args.id.0 ∙ sym c.in-Some.ensures) c.in-Some-get.above.now (sym c.in-Some-get.ensures)
    c.children_without-left.result c.reorder_node.new.nodes c.reorder_node.ensures c.args.ids.now c.remove_each.ensures.nodes
    (c.requires.all ∙ sym (ap (λ (x : Held _). subtree (by_id_of (g.E.Engine.live x.engine) x.nodes) c.args.id.0) c.self.view_is)) (ap (λ (a : Components). a.by_id) is))
