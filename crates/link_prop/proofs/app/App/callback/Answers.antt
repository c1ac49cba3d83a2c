use Rattle.comp_tree.specs.Held.{components_of}
use Rattle.link_prop.proofs.AlikeComponents.{linked_after_callback}
use Rattle.link_prop.specs.Marks.{values_at}
use Rattle.link_prop.proofs.AppMarks.{keeps_own}
use Rattle.link_prop.proofs.app.App.callback.Goals as goal

pub invariant_of-self : goal.invariant_of-self
invariant_of-self g c =
    linked_after_callback (g.E.Engine.meaning c.self.inside.tree.engine) (g.E.Engine.meaning c.callback.new.self.engine)
    (components_of g.E.Engine c.self.inside.tree) (components_of g.E.Engine c.callback.new.self) c.self.inside.links
    c.self.invariant c.callback.ensures.same.meaning
    c.args.id.0 c.args.c c.args.slot c.args.turns _ c.callback.ensures.left

pub returns-clause-marks : goal.returns-clause-marks
returns-clause-marks g c =
    keeps_own g.E.Engine (values_at c.args.id.0) c.self.inside.tree c.callback.new.self c.self.inside.links c.self.inside.marks _ c.self.view_is c.callback.ensures.marks
