use Rattle.std.proofs.Common.{refl, ap, ◌∙◌}
use Rattle.comp_tree.specs.Held.{components_of}
use Rattle.comp_tree.specs.Links.{store, with_value}
use Rattle.comp_tree.specs.Marks.{marks_at, only, value_parts, with_parts}
use Rattle.comp_tree.proofs.MarkCalls.{keeps_marked, part_change, values_alone}
use Rattle.comp_tree.proofs.tree.Tree.assign.Goals as goal

pub returns-clause-marks : goal.returns-clause-marks
returns-clause-marks g c =
    let m = g.E.Engine.meaning c.args.self.now.engine in
    let a = components_of g.E.Engine c.args.self.now in
    keeps_marked g.E.Engine c.args.self.now c.store-changed.new.self c.mark.new.self c.args.id.0 value_parts c.store-changed.ensures.marks
    (λ q place. c.mark.ensures.marks q place ∙ ap (λ parts. with_parts (only c.args.id.0 parts q) (marks_at c.store-changed.new.self q place)) c.of_values.ensures)
    c.mark.ensures.stays (c.mark.ensures.same.meaning ∙ c.store-changed.ensures.same.meaning)
    (store m a c.args.id.0 c.args.slot c.args.value.now) c.store-changed.ensures.stored
    (part_change m a.by_id c.args.id.0 (with_value m c.args.slot c.args.value.now) value_parts (λ part k out. values_alone m k (with_value m c.args.slot c.args.value.now k) refl part out))
