use Rattle.std.proofs.Common.{refl, sym, ap, subst, ◌∙◌}
use Rattle.node_table.specs.Changed.{with_fault}
use Rattle.comp_tree.specs.Edits.{after_clear, without_fault}
use Rattle.comp_tree.specs.Held.{Held, by_id_of, components_of}
use Rattle.comp_tree.specs.Refusals.{first_refusal, refusals_of_clear}
use Rattle.comp_tree.proofs.EditLemmas.{changed_is, held_changed}
use Rattle.comp_tree.proofs.RunLemmas.{clear_refused, clear_allowed}
use Rattle.comp_tree.specs.Marks.{KeepsMarks, no_marks, no_parts, only, parts_at}
use Rattle.comp_tree.proofs.MarkCalls.{among_no_one, keeps_changed, keeps_narrow, no_fault_part}
use Rattle.comp_tree.proofs.MarkSteps.{with_none}
use Rattle.comp_tree.proofs.tree.Tree.clear.Goals as goal

pub returns-in_default-clause-refused : goal.returns-in_default-clause-refused
returns-in_default-clause-refused g c =
    let i = c.self.inside in
    ap (λ (h : Held _). first_refusal (refusals_of_clear (by_id_of (g.E.Engine.live h.engine) h.nodes) c.args.id.0)) (sym c.self.view_is)
    ∙ clear_refused (g.E.Engine.live i.engine) i.nodes c.args.id.0 (sym c.in_default.ensures)

pub invariant_of-self : goal.invariant_of-self
invariant_of-self g c =
    let h : Held _ = record { engine = c.self.inside.engine; nodes = c.self.inside.nodes } in
    held_changed g.E.Engine h c.self.invariant.placed c.args.id.0 c.in-Some._node.now (sym c.in-Some.ensures) (with_fault 0) refl refl c.set_fault.new.self c.set_fault.ensures refl refl c.self.invariant.tree

pub returns-clause-done : goal.returns-clause-done
returns-clause-done g c =
    let h : Held _ = record { engine = c.self.inside.engine; nodes = c.self.inside.nodes } in
    changed_is g.E.Engine h c.self.invariant.placed c.args.id.0 c.in-Some._node.now (sym c.in-Some.ensures) (with_fault 0) refl refl c.set_fault.new.self c.set_fault.ensures without_fault refl
    ∙ ap (λ (x : Held _). after_clear (components_of g.E.Engine x) c.args.id.0) c.self.view_is

pub returns-clause-refused : goal.returns-clause-refused
returns-clause-refused g c =
    let i = c.self.inside in
    ap (λ (h : Held _). first_refusal (refusals_of_clear (by_id_of (g.E.Engine.live h.engine) h.nodes) c.args.id.0)) (sym c.self.view_is)
    ∙ clear_allowed (g.E.Engine.meaning i.engine) (g.E.Engine.live i.engine) i.nodes c.args.id.0 _ (sym c.in-Some.ensures)

pub returns-clause-marks : goal.returns-clause-marks
returns-clause-marks g c =
    let h : Held _ = record { engine = c.self.inside.engine; nodes = c.self.inside.nodes } in
    let n = c.in-Some._node.now in
    let left : Held _ = record { engine = c.self.inside.engine; nodes = c.set_fault.new.self } in
    subst (λ (x : Held _). KeepsMarks g.E.Engine no_marks x left) c.self.view_is
    (keeps_narrow g.E.Engine (only c.args.id.0 no_parts) no_marks h left
    (keeps_changed g.E.Engine h c.self.invariant.placed c.args.id.0 n (sym c.in-Some.ensures) (with_fault 0) refl refl c.set_fault.new.self c.set_fault.ensures without_fault refl no_parts (λ at. sym (with_none (parts_at n.marks at)))
    (no_fault_part (g.E.Engine.meaning h.engine)))
    (λ q part live e. among_no_one c.args.id.0 q part e))
