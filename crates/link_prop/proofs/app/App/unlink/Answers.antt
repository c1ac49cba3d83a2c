use Rattle.std.proofs.Common.{refl, sym, ◌∙◌, ap, subst}
use Rattle.comp_tree.specs.Parts.{link_part}
use Rattle.comp_tree.specs.Held.{components_of}
use Rattle.link_prop.specs.Linked.{AreLinked, Linked}
use Rattle.link_prop.specs.Marks.{KeepsAppMarks, links_at_ends, no_marks}
use Rattle.link_prop.proofs.AppMarks.{keeps_links}
use Rattle.link_prop.proofs.ChangedLinks.{linked_without}
use Rattle.link_prop.proofs.LinkParts.{part_without_link}
use Rattle.link_prop.proofs.app.App.unlink.Goals as goal

pub invariant_of-self : goal.invariant_of-self
invariant_of-self g c =
    subst (AreLinked (g.E.Engine.meaning c.self.inside.tree.engine) (components_of g.E.Engine c.self.inside.tree).by_id)
    (sym c.remove-there.ensures.left)
    (linked_without (g.E.Engine.meaning c.self.inside.tree.engine) (components_of g.E.Engine c.self.inside.tree).by_id
    c.self.inside.links c.args.l (c.links_taken_out_are_gone.ensures.fewer c.args.l c.self.inside.links) c.self.invariant)

pub returns-clause-marks : goal.returns-clause-marks
returns-clause-marks g c =
    let i = c.self.inside in
    let after : Linked _ = record { tree = i.tree; links = c.remove-there.new.self; marks = c.mark_ends.new.marks } in
    subst (λ (x : Linked _). KeepsAppMarks g.E.Engine no_marks (links_at_ends c.args.l) x after) c.self.view_is
    (keeps_links g.E.Engine no_marks (links_at_ends c.args.l) (record { tree = i.tree; links = i.links; marks = i.marks }) after refl c.mark_ends.ensures
    (λ id out. part_without_link c.args.l i.links id out ∙ ap (link_part id) (sym c.remove-there.ensures.left)))
