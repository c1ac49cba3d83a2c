use Rattle.std.proofs.Common.{refl, sym, ap, subst, ◌∙◌}
use Rattle.std.specs.FinMap as map
use Rattle.node_table.specs.Changed as node
use Rattle.comp_tree.specs.Edits.{after_rename, with_name}
use Rattle.comp_tree.specs.Held.{Held, by_id_of, components_of}
use Rattle.comp_tree.specs.Refusals.{first_refusal, refusals_of_rename}
use Rattle.comp_tree.proofs.EditLemmas.{changed_is, held_changed, some_of}
use Rattle.comp_tree.specs.Marks.{KeepsMarks, tree_at, tree_parts}
use Rattle.comp_tree.proofs.MarkCalls.{keeps_changed, tree_alone}
use Rattle.comp_tree.proofs.MarkSteps.{touched_here}
use Rattle.comp_tree.proofs.tree.Tree.rename.Goals as goal

pub returns-in-Err-clause-refused : goal.returns-in-Err-clause-refused
returns-in-Err-clause-refused g c =
    ap (λ (h : Held _). first_refusal (refusals_of_rename (by_id_of (g.E.Engine.live h.engine) h.nodes) c.args.id.0 c.args.name.now)) (sym c.self.view_is)
    ∙ c.in-Err.ensures.first (g.E.Engine.live c.self.inside.engine)

pub invariant_of-self : goal.invariant_of-self
invariant_of-self g c =
    let h : Held _ = record { engine = c.self.inside.engine; nodes = c.self.inside.nodes } in
    let n = some_of (map.get c.self.inside.nodes c.args.id.0) c.in-Ok.ensures.live in
    held_changed g.E.Engine h c.self.invariant.placed c.args.id.0 n.0 n.1 (node.with_name c.in-Ok.new) refl refl c.rename_node.new.nodes c.rename_node.ensures refl refl c.self.invariant.tree

pub returns-clause-done : goal.returns-clause-done
returns-clause-done g c =
    let h : Held _ = record { engine = c.self.inside.engine; nodes = c.self.inside.nodes } in
    let n = some_of (map.get c.self.inside.nodes c.args.id.0) c.in-Ok.ensures.live in
    changed_is g.E.Engine h c.self.invariant.placed c.args.id.0 n.0 n.1 (node.with_name c.in-Ok.new) refl refl c.rename_node.new.nodes c.rename_node.ensures (with_name c.in-Ok.new) refl
    ∙ ap (λ name. after_rename (components_of g.E.Engine h) c.args.id.0 name) c.in-Ok.ensures.same
    ∙ ap (λ (x : Held _). after_rename (components_of g.E.Engine x) c.args.id.0 c.args.name.now) c.self.view_is

pub returns-clause-refused : goal.returns-clause-refused
returns-clause-refused g c =
    ap (λ (h : Held _). first_refusal (refusals_of_rename (by_id_of (g.E.Engine.live h.engine) h.nodes) c.args.id.0 c.args.name.now)) (sym c.self.view_is)
    ∙ c.in-Ok.ensures.first (g.E.Engine.live c.self.inside.engine)

pub returns-clause-marks : goal.returns-clause-marks
returns-clause-marks g c =
    let h : Held _ = record { engine = c.self.inside.engine; nodes = c.self.inside.nodes } in
    let n = some_of (map.get c.self.inside.nodes c.args.id.0) c.in-Ok.ensures.live in
    subst (λ (x : Held _). KeepsMarks g.E.Engine (tree_at c.args.id.0) x (record { engine = c.self.inside.engine; nodes = c.rename_node.new.nodes })) c.self.view_is
    (keeps_changed g.E.Engine h c.self.invariant.placed c.args.id.0 n.0 n.1 (node.with_name c.in-Ok.new) refl refl c.rename_node.new.nodes c.rename_node.ensures (with_name c.in-Ok.new) refl tree_parts (touched_here tree_parts n.0.marks)
    (λ part k out. tree_alone (g.E.Engine.meaning h.engine) k (with_name c.in-Ok.new k) refl refl part out))
