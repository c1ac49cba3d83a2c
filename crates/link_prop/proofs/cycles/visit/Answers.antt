use Rattle.std.proofs.Common.{◌≡◌, ◌+◌, ℤ, to_z, of_z, w64, sym, ap, ◌∙◌, arith}
use Rattle.std.proofs.lemmas.Int.{to_z-of_z}
use Rattle.sed_engine.specs.Code.{Meaning}
use Rattle.comp_tree.specs.Calls.{Counted, execute_at, then_run, traps_of}
use Rattle.comp_tree.specs.Cycle.{visit}
use Rattle.comp_tree.specs.Held.{components_of}
use Rattle.comp_tree.specs.Application.{is_live}
use Rattle.link_prop.proofs.CycleMarks.{copied_live, marked_again, marked_any}
use Rattle.link_prop.proofs.cycles.visit.Goals as goal

pub returns-clause-visited : goal.returns-clause-visited
returns-clause-visited g c = λ before.
    let m = g.E.Engine.meaning c.args.app.now.tree.engine in
    let t = to_z w64 (of_z w64 c.args.ticks) in
    let same : to_z w64 (of_z w64 c.args.ticks) ≡ c.args.ticks = to_z-of_z w64 c.args.ticks c.ranges.ticks in
    let mid = components_of g.E.Engine c.copy_into-copied.new.self.tree in
    let left = sym (c.run_if_it_may.ensures.left ∙ ap (λ (n : Meaning). (execute_at n mid c.args.id.0 c.args.turns t).left) c.copy_into-copied.ensures.same.meaning) in
    let traps = c.run_if_it_may.ensures.traps ∙ ap (λ (n : Meaning). traps_of (execute_at n mid c.args.id.0 c.args.turns t).end) c.copy_into-copied.ensures.same.meaning in
    let sum : (before + c.copy_into-copied.result) + traps_of (execute_at m mid c.args.id.0 c.args.turns t).end ≡ before + (c.copy_into-copied.result + c.run_if_it_may.result) = omega (arith, traps) in
    ap (λ (u : ℤ). visit m c.args.app.now.links c.args.turns u (record { left = components_of g.E.Engine c.args.app.now.tree; traps = before }) c.args.id.0) (sym same)
    ∙ ap (λ (s : Counted). then_run s (λ a. execute_at m a c.args.id.0 c.args.turns t)) (c.copy_into-copied.ensures.copied before)
    ∙ (λ i. record { left = left i; traps = sum i })

pub returns-clause-live : goal.returns-clause-live
returns-clause-live g c = λ q.
    let m = g.E.Engine.meaning c.args.app.now.tree.engine in
    let t = to_z w64 (of_z w64 c.args.ticks) in
    let start = components_of g.E.Engine c.args.app.now.tree in
    c.run_if_it_may.ensures.live q
    ∙ sym (ap (λ (s : Counted). is_live s.left.by_id q) (c.copy_into-copied.ensures.copied 0))
    ∙ copied_live m c.args.app.now.links c.args.turns t (record { left = start; traps = 0 }) c.args.id.0 q

pub returns-clause-marks : goal.returns-clause-marks
returns-clause-marks g c =
    marked_again g.E.Engine c.args.app.now c.copy_into-copied.new.self c.run_if_it_may.new.app
    (marked_any g.E.Engine c.args.id.0 c.args.app.now c.copy_into-copied.new.self c.copy_into-copied.ensures.marks) c.run_if_it_may.ensures.marks c.run_if_it_may.ensures.live
