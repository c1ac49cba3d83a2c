use Rattle.std.proofs.Common.{ap}
use Rattle.comp_tree.specs.Held.{components_of}
use Rattle.link_prop.proofs.AlikeComponents.{after_result, linked_after_write, linked_same}
use Rattle.link_prop.specs.Marks.{values_at}
use Rattle.link_prop.proofs.AppMarks.{keeps_own}
use Rattle.link_prop.proofs.app.App.write.Goals as goal

pub invariant_of-self : goal.invariant_of-self
invariant_of-self g c =
    after_result c.write.result c.write.ensures.done c.write.ensures.stays
    (λ is. linked_after_write (g.E.Engine.meaning c.self.inside.tree.engine) (g.E.Engine.meaning c.write.new.self.engine)
    (components_of g.E.Engine c.self.inside.tree) (components_of g.E.Engine c.write.new.self) c.self.inside.links
    c.self.invariant c.write.ensures.same.meaning
    c.args.id.0 c.args.slot c.args.value.now c.args.turns _ is)
    (λ is. linked_same (g.E.Engine.meaning c.self.inside.tree.engine) (g.E.Engine.meaning c.write.new.self.engine)
    (components_of g.E.Engine c.self.inside.tree) (components_of g.E.Engine c.write.new.self) c.self.inside.links
    c.self.invariant c.write.ensures.same.meaning
    (ap (components_of g.E.Engine) is))

pub returns-clause-marks : goal.returns-clause-marks
returns-clause-marks g c =
    keeps_own g.E.Engine (values_at c.args.id.0) c.self.inside.tree c.write.new.self c.self.inside.links c.self.inside.marks _ c.self.view_is c.write.ensures.marks
