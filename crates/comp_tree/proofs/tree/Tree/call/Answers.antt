use Rattle.std.proofs.Common.{to_z, of_z, w64, ap, ◌∙◌}
use Rattle.comp_tree.specs.Calls.{run_at}
use Rattle.comp_tree.specs.Held.{components_of}
use Rattle.comp_tree.specs.Marks.{marks_at, only, value_parts, with_parts}
use Rattle.comp_tree.proofs.MarkCalls.{keeps_marked, part_run}
use Rattle.comp_tree.proofs.tree.Tree.call.Goals as goal

pub returns-clause-marks : goal.returns-clause-marks
returns-clause-marks g c =
    let m = g.E.Engine.meaning c.args.self.now.engine in
    let a = components_of g.E.Engine c.args.self.now in
    keeps_marked g.E.Engine c.args.self.now c.run-end.new.self c.mark.new.self c.args.id.0 value_parts c.run-end.ensures.marks
    (λ q place. c.mark.ensures.marks q place ∙ ap (λ parts. with_parts (only c.args.id.0 parts q) (marks_at c.run-end.new.self q place)) c.of_values.ensures)
    c.mark.ensures.stays (c.mark.ensures.same.meaning ∙ c.run-end.ensures.same.meaning)
    (run_at m a c.args.id.0 c.args.which c.args.arg.now c.args.turns (to_z w64 (of_z w64 c.args.ticks))).left c.run-end.ensures.left
    (part_run m a c.args.id.0 c.args.which c.args.arg.now c.args.turns (to_z w64 (of_z w64 c.args.ticks)))
