use Rattle.std.proofs.Common.{ap}
use Rattle.comp_tree.specs.Held.{components_of}
use Rattle.link_prop.proofs.AlikeComponents.{after_result, linked_after_invoke, linked_same}
use Rattle.link_prop.specs.Marks.{values_at}
use Rattle.link_prop.proofs.AppMarks.{keeps_own}
use Rattle.link_prop.proofs.app.App.invoke.Goals as goal

pub invariant_of-self : goal.invariant_of-self
invariant_of-self g c =
    after_result c.invoke.result c.invoke.ensures.done c.invoke.ensures.stays
    (λ is. linked_after_invoke (g.E.Engine.meaning c.self.inside.tree.engine) (g.E.Engine.meaning c.invoke.new.self.engine)
    (components_of g.E.Engine c.self.inside.tree) (components_of g.E.Engine c.invoke.new.self) c.self.inside.links
    c.self.invariant c.invoke.ensures.same.meaning
    c.args.id.0 (record { 0 = c.args.slot }) c.args.arg.now c.args.turns _ is)
    (λ is. linked_same (g.E.Engine.meaning c.self.inside.tree.engine) (g.E.Engine.meaning c.invoke.new.self.engine)
    (components_of g.E.Engine c.self.inside.tree) (components_of g.E.Engine c.invoke.new.self) c.self.inside.links
    c.self.invariant c.invoke.ensures.same.meaning
    (ap (components_of g.E.Engine) is))

pub returns-clause-marks : goal.returns-clause-marks
returns-clause-marks g c =
    keeps_own g.E.Engine (values_at c.args.id.0) c.self.inside.tree c.invoke.new.self c.self.inside.links c.self.inside.marks _ c.self.view_is c.invoke.ensures.marks
