use Rattle.std.proofs.Common.{ap}
use Rattle.comp_tree.specs.Held.{components_of}
use Rattle.link_prop.proofs.AlikeComponents.{after_result, linked_after_clear, linked_same}
use Rattle.link_prop.specs.Marks.{no_marks}
use Rattle.link_prop.proofs.AppMarks.{keeps_own}
use Rattle.link_prop.proofs.app.App.clear.Goals as goal

pub invariant_of-self : goal.invariant_of-self
invariant_of-self g c =
    after_result c.clear.result c.clear.ensures.done c.clear.ensures.stays
    (λ is. linked_after_clear (g.E.Engine.meaning c.self.inside.tree.engine) (g.E.Engine.meaning c.clear.new.self.engine)
    (components_of g.E.Engine c.self.inside.tree) (components_of g.E.Engine c.clear.new.self) c.self.inside.links
    c.self.invariant c.clear.ensures.same.meaning
    c.args.id.0 is)
    (λ is. linked_same (g.E.Engine.meaning c.self.inside.tree.engine) (g.E.Engine.meaning c.clear.new.self.engine)
    (components_of g.E.Engine c.self.inside.tree) (components_of g.E.Engine c.clear.new.self) c.self.inside.links
    c.self.invariant c.clear.ensures.same.meaning
    (ap (components_of g.E.Engine) is))

pub returns-clause-marks : goal.returns-clause-marks
returns-clause-marks g c =
    keeps_own g.E.Engine no_marks c.self.inside.tree c.clear.new.self c.self.inside.links c.self.inside.marks _ c.self.view_is c.clear.ensures.marks
