use Rattle.std.proofs.lemmas.Int.{to_z-of_z}
use Rattle.std.proofs.Common.{◌≡◌, ℕ, ℤ, to_z, of_z, w64, refl, sym, ap, subst, ◌∙◌}
use Rattle.node_table.specs.Changed.{with_fault}
use Rattle.node_table.specs.declared.node.Node.{Node}
use Rattle.comp_tree.specs.Marks.{marks_at}
use Rattle.comp_tree.proofs.EditLemmas.{of_found}
use Rattle.comp_tree.proofs.MarkSteps.{marks_kept}
use Rattle.std.specs.Prelude.{IsSomeAnd, IsTrue}
use Rattle.std.specs.FinMap as map
use Rattle.comp_tree.specs.Held.{Held, by_id_of, components_of}
use Rattle.sed_engine.specs.Code.{may_call}
use Rattle.sed_engine.specs.declared.call.CallEnd.TheVariants.{Done}
use Rattle.comp_tree.specs.Calls.{Ran, run_at}
use Rattle.comp_tree.proofs.RunLemmas.{run_without, run_faulted, placed_run, tree_run, run_left, run_end, may_here}
use Rattle.comp_tree.proofs.tree.Tree.run.Goals as goal

pub returns-in_default-clause-left : goal.returns-in_default-clause-left
returns-in_default-clause-left g c =
    let h : Held _ = record { engine = c.self.inside.engine; nodes = c.self.inside.nodes } in
    subst (λ (x : Held _). components_of g.E.Engine x ≡ (run_at (g.E.Engine.meaning x.engine) (components_of g.E.Engine x) c.args.id.0 c.args.which c.args.arg.now c.args.turns c.args.ticks).left) c.self.view_is
    (sym (ap (λ (r : Ran). r.left) (run_without g.E.Engine h c.args.id.0 c.args.which c.args.arg.now c.args.turns c.args.ticks (sym c.in_default.ensures))))

pub returns-in_default-clause-end : goal.returns-in_default-clause-end
returns-in_default-clause-end g c =
    let h : Held _ = record { engine = c.self.inside.engine; nodes = c.self.inside.nodes } in
    ap Done c.number-most.ensures.same
    ∙ subst (λ (x : Held _). Done c.args.turns ≡ (run_at (g.E.Engine.meaning x.engine) (components_of g.E.Engine x) c.args.id.0 c.args.which c.args.arg.now c.args.turns c.args.ticks).end) c.self.view_is
    (sym (ap (λ (r : Ran). r.end) (run_without g.E.Engine h c.args.id.0 c.args.which c.args.arg.now c.args.turns c.args.ticks (sym c.in_default.ensures))))

pub returns-then-node-ne0-clause-left : goal.returns-then-node-ne0-clause-left
returns-then-node-ne0-clause-left g c =
    let h : Held _ = record { engine = c.self.inside.engine; nodes = c.self.inside.nodes } in
    subst (λ (x : Held _). components_of g.E.Engine x ≡ (run_at (g.E.Engine.meaning x.engine) (components_of g.E.Engine x) c.args.id.0 c.args.which c.args.arg.now c.args.turns c.args.ticks).left) c.self.view_is
    (sym (ap (λ (r : Ran). r.left) (run_faulted g.E.Engine h c.args.id.0 c.args.which c.args.arg.now c.args.turns c.args.ticks c.in-Some.node.now (sym c.in-Some.ensures) c.if-node-ne0.true)))

pub returns-then-node-ne0-clause-end : goal.returns-then-node-ne0-clause-end
returns-then-node-ne0-clause-end g c =
    let h : Held _ = record { engine = c.self.inside.engine; nodes = c.self.inside.nodes } in
    ap Done c.number-most.ensures.same
    ∙ subst (λ (x : Held _). Done c.args.turns ≡ (run_at (g.E.Engine.meaning x.engine) (components_of g.E.Engine x) c.args.id.0 c.args.which c.args.arg.now c.args.turns c.args.ticks).end) c.self.view_is
    (sym (ap (λ (r : Ran). r.end) (run_faulted g.E.Engine h c.args.id.0 c.args.which c.args.arg.now c.args.turns c.args.ticks c.in-Some.node.now (sym c.in-Some.ensures) c.if-node-ne0.true)))

pub call-end-requires-clause-live : goal.call-end-requires-clause-live
call-end-requires-clause-live g c =
    let i = c.self.inside in
    may_here (g.E.Engine.meaning i.engine) (g.E.Engine.live i.engine) i.nodes c.self.invariant.placed c.args.id.0 c.in-Some.node.now (sym c.in-Some.ensures)
    (λ class. IsTrue (may_call (g.E.Engine.meaning i.engine) class c.args.which c.args.arg.now))
    (subst (λ (x : Held _). IsSomeAnd (map.get (by_id_of (g.E.Engine.live x.engine) x.nodes) c.args.id.0) (λ k. IsTrue (may_call (g.E.Engine.meaning x.engine) k.class c.args.which c.args.arg.now))) (sym c.self.view_is) c.requires)

pub invariant_of-self : goal.invariant_of-self
invariant_of-self g c =
    let h : Held _ = record { engine = c.self.inside.engine; nodes = c.self.inside.nodes } in
    record {
      placed = placed_run g.E.Engine h c.args.id.0 c.args.which c.args.arg.now c.number-most.result (to_z w64 (of_z w64 c.args.ticks)) c.in-Some.node.now (sym c.in-Some.ensures) c.self.invariant.placed c.if-node-ne0.false c.call-end.new.self c.set_fault.new.self c.call-end.result c.fault_number.result
          c.call-end.ensures.left c.call-end.ensures.statics c.call-end.ensures.end c.call-end.ensures.limit c.call-end.ensures.meaning c.fault_number.ensures c.set_fault.ensures;
      tree = tree_run g.E.Engine h c.args.id.0 c.args.which c.args.arg.now c.number-most.result (to_z w64 (of_z w64 c.args.ticks)) c.in-Some.node.now (sym c.in-Some.ensures) c.self.invariant.placed c.if-node-ne0.false c.call-end.new.self c.set_fault.new.self c.call-end.result c.fault_number.result
          c.call-end.ensures.left c.call-end.ensures.statics c.call-end.ensures.end c.call-end.ensures.limit c.call-end.ensures.meaning c.fault_number.ensures c.set_fault.ensures c.self.invariant.tree;
    }

pub returns-clause-left : goal.returns-clause-left
returns-clause-left g c =
    let h : Held _ = record { engine = c.self.inside.engine; nodes = c.self.inside.nodes } in
    let same : to_z w64 (of_z w64 c.args.ticks) ≡ c.args.ticks = to_z-of_z w64 c.args.ticks c.ranges.ticks in
    run_left g.E.Engine h c.args.id.0 c.args.which c.args.arg.now c.number-most.result (to_z w64 (of_z w64 c.args.ticks)) c.in-Some.node.now (sym c.in-Some.ensures) c.self.invariant.placed c.if-node-ne0.false c.call-end.new.self c.set_fault.new.self c.call-end.result c.fault_number.result
    c.call-end.ensures.left c.call-end.ensures.statics c.call-end.ensures.end c.call-end.ensures.limit c.call-end.ensures.meaning c.fault_number.ensures c.set_fault.ensures
    ∙ ap (λ (k : ℤ). (run_at (g.E.Engine.meaning h.engine) (components_of g.E.Engine h) c.args.id.0 c.args.which c.args.arg.now c.number-most.result k).left) same
    ∙ ap (λ (x : Held _). (run_at (g.E.Engine.meaning x.engine) (components_of g.E.Engine x) c.args.id.0 c.args.which c.args.arg.now c.number-most.result c.args.ticks).left) c.self.view_is
    ∙ ap (λ (n : ℕ). (run_at (g.E.Engine.meaning c.args.self.now.engine) (components_of g.E.Engine c.args.self.now) c.args.id.0 c.args.which c.args.arg.now n c.args.ticks).left) c.number-most.ensures.same

pub returns-clause-end : goal.returns-clause-end
returns-clause-end g c =
    let h : Held _ = record { engine = c.self.inside.engine; nodes = c.self.inside.nodes } in
    let same : to_z w64 (of_z w64 c.args.ticks) ≡ c.args.ticks = to_z-of_z w64 c.args.ticks c.ranges.ticks in
    run_end g.E.Engine h c.args.id.0 c.args.which c.args.arg.now c.number-most.result (to_z w64 (of_z w64 c.args.ticks)) c.in-Some.node.now (sym c.in-Some.ensures) c.self.invariant.placed c.if-node-ne0.false c.call-end.new.self c.set_fault.new.self c.call-end.result c.fault_number.result
    c.call-end.ensures.left c.call-end.ensures.statics c.call-end.ensures.end c.call-end.ensures.limit c.call-end.ensures.meaning c.fault_number.ensures c.set_fault.ensures
    ∙ ap (λ (k : ℤ). (run_at (g.E.Engine.meaning h.engine) (components_of g.E.Engine h) c.args.id.0 c.args.which c.args.arg.now c.number-most.result k).end) same
    ∙ ap (λ (x : Held _). (run_at (g.E.Engine.meaning x.engine) (components_of g.E.Engine x) c.args.id.0 c.args.which c.args.arg.now c.number-most.result c.args.ticks).end) c.self.view_is
    ∙ ap (λ (n : ℕ). (run_at (g.E.Engine.meaning c.args.self.now.engine) (components_of g.E.Engine c.args.self.now) c.args.id.0 c.args.which c.args.arg.now n c.args.ticks).end) c.number-most.ensures.same

pub returns-clause-marks : goal.returns-clause-marks
returns-clause-marks g c = λ other at.
    let h : Held _ = record { engine = c.self.inside.engine; nodes = c.self.inside.nodes } in
    let n = c.in-Some.node.now in
    let is = of_found _ n (λ (k : Node). c.set_fault.new.self ≡ map.insert h.nodes c.args.id.0 (with_fault c.fault_number.result k)) (sym c.in-Some.ensures) c.set_fault.ensures in
    marks_kept h.nodes c.set_fault.new.self c.args.id.0 n (with_fault c.fault_number.result n) (sym c.in-Some.ensures) refl is other at
    ∙ ap (λ (x : Held _). marks_at x other at) c.self.view_is
