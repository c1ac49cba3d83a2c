use Rattle.std.proofs.Common.{ap}
use Rattle.comp_tree.specs.Held.{components_of}
use Rattle.link_prop.proofs.AlikeComponents.{after_result, linked_after_rename, linked_same}
use Rattle.link_prop.specs.Marks.{tree_at}
use Rattle.link_prop.proofs.AppMarks.{keeps_own}
use Rattle.link_prop.proofs.app.App.rename.Goals as goal

pub invariant_of-self : goal.invariant_of-self
invariant_of-self g c =
    after_result c.rename.result c.rename.ensures.done c.rename.ensures.stays
    (λ is. linked_after_rename (g.E.Engine.meaning c.self.inside.tree.engine) (g.E.Engine.meaning c.rename.new.self.engine)
    (components_of g.E.Engine c.self.inside.tree) (components_of g.E.Engine c.rename.new.self) c.self.inside.links
    c.self.invariant c.rename.ensures.same.meaning
    c.args.id.0 c.args.name.now is)
    (λ is. linked_same (g.E.Engine.meaning c.self.inside.tree.engine) (g.E.Engine.meaning c.rename.new.self.engine)
    (components_of g.E.Engine c.self.inside.tree) (components_of g.E.Engine c.rename.new.self) c.self.inside.links
    c.self.invariant c.rename.ensures.same.meaning
    (ap (components_of g.E.Engine) is))

pub returns-clause-marks : goal.returns-clause-marks
returns-clause-marks g c =
    keeps_own g.E.Engine (tree_at c.args.id.0) c.self.inside.tree c.rename.new.self c.self.inside.links c.self.inside.marks _ c.self.view_is c.rename.ensures.marks
