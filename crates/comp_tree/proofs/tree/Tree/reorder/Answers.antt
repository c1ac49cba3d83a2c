use Rattle.std.proofs.Common.{ℕ, List, [], refl, sym, ap, ◌∙◌, subst}
use Rattle.std.specs.FinMap as map
use Rattle.std.specs.Option.{option_map_or}
use Rattle.comp_tree.specs.Application.{change_at, with_components}
use Rattle.node_table.specs.Changed as node
use Rattle.comp_tree.specs.Edits.{after_reorder, with_children}
use Rattle.comp_tree.specs.Held.{Held, by_id_of, components_of}
use Rattle.comp_tree.specs.Refusals.{first_refusal, refusals_of_reorder}
use Rattle.comp_tree.proofs.EditLemmas.{changed_is, each_of, held_ordered, some_of}
use Rattle.comp_tree.specs.Marks.{KeepsMarks, tree_at, tree_parts}
use Rattle.comp_tree.proofs.MarkCalls.{keeps_changed, tree_alone}
use Rattle.comp_tree.proofs.MarkSteps.{touched_here}
use Rattle.comp_tree.proofs.tree.Tree.reorder.Goals as goal

pub returns-in-Err-clause-refused : goal.returns-in-Err-clause-refused
returns-in-Err-clause-refused g c =
    ap (λ (h : Held _). first_refusal (refusals_of_reorder (by_id_of (g.E.Engine.live h.engine) h.nodes) c.args.id.0 c.args.children.now)) (sym c.self.view_is)
    ∙ c.in-Err.ensures.first (g.E.Engine.live c.self.inside.engine)

pub invariant_of-self : goal.invariant_of-self
invariant_of-self g c =
    let h : Held _ = record { engine = c.self.inside.engine; nodes = c.self.inside.nodes } in
    let n = some_of (map.get c.self.inside.nodes c.args.id.0) c.in-Ok.ensures.live in
    held_ordered g.E.Engine h c.self.invariant.placed c.args.id.0 n.0 n.1 (node.with_children c.in-Ok.ids) refl refl c.reorder_node.new.nodes c.reorder_node.ensures refl (each_of (map.get c.self.inside.nodes c.args.id.0) n.0 c.in-Ok.ids n.1 c.in-Ok.ensures.each) c.self.invariant.tree

pub returns-clause-done : goal.returns-clause-done
returns-clause-done g c =
    let h : Held _ = record { engine = c.self.inside.engine; nodes = c.self.inside.nodes } in
    let n = some_of (map.get c.self.inside.nodes c.args.id.0) c.in-Ok.ensures.live in
    changed_is g.E.Engine h c.self.invariant.placed c.args.id.0 n.0 n.1 (node.with_children c.in-Ok.ids) refl refl c.reorder_node.new.nodes c.reorder_node.ensures (with_children c.in-Ok.ids) refl
    ∙ ap (λ ids. with_components (components_of g.E.Engine h) (change_at (components_of g.E.Engine h).by_id c.args.id.0 (with_children (option_map_or (λ (xs : List ℕ). xs) ids [])))) (sym c.in-Ok.ensures.same)
    ∙ ap (λ (x : Held _). after_reorder (components_of g.E.Engine x) c.args.id.0 c.args.children.now) c.self.view_is

pub returns-clause-refused : goal.returns-clause-refused
returns-clause-refused g c =
    ap (λ (h : Held _). first_refusal (refusals_of_reorder (by_id_of (g.E.Engine.live h.engine) h.nodes) c.args.id.0 c.args.children.now)) (sym c.self.view_is)
    ∙ c.in-Ok.ensures.first (g.E.Engine.live c.self.inside.engine)

pub returns-clause-marks : goal.returns-clause-marks
returns-clause-marks g c =
    let h : Held _ = record { engine = c.self.inside.engine; nodes = c.self.inside.nodes } in
    let n = some_of (map.get c.self.inside.nodes c.args.id.0) c.in-Ok.ensures.live in
    subst (λ (x : Held _). KeepsMarks g.E.Engine (tree_at c.args.id.0) x (record { engine = c.self.inside.engine; nodes = c.reorder_node.new.nodes })) c.self.view_is
    (keeps_changed g.E.Engine h c.self.invariant.placed c.args.id.0 n.0 n.1 (node.with_children c.in-Ok.ids) refl refl c.reorder_node.new.nodes c.reorder_node.ensures (with_children c.in-Ok.ids) refl tree_parts (touched_here tree_parts n.0.marks)
    (λ part k out. tree_alone (g.E.Engine.meaning h.engine) k (with_children c.in-Ok.ids k) refl refl part out))
