use Rattle.std.proofs.Common.{sym, ◌∙◌, ap, subst}
use Rattle.comp_tree.specs.Parts.{link_part}
use Rattle.link_prop.specs.Linked.{Linked}
use Rattle.link_prop.specs.Marks.{KeepsAppMarks, links_with, tree_above}
use Rattle.link_prop.proofs.AppMarks.{keeps_app}
use Rattle.link_prop.proofs.LinkParts.{part_without_links}
use Rattle.sub_table.specs.Marks.{AreMarked}
use Rattle.comp_tree.specs.Held.{components_of}
use Rattle.comp_tree.specs.Order.{subtree}
use Rattle.link_prop.proofs.DeletedLinks.{linked_after_delete}
use Rattle.link_prop.proofs.app.App.delete.Goals as goal

pub invariant_of-self : goal.invariant_of-self
invariant_of-self g c =
    let m = g.E.Engine.meaning c.self.inside.tree.engine in
    let a = components_of g.E.Engine c.self.inside.tree in
    let links = c.self.inside.links in
    let ids = subtree a.by_id c.args.id.0 in
    linked_after_delete m a c.args.id.0 c.args.turns _ links (c.links_taken_out_are_gone.ensures.at ids links)
    (λ q. c.links_taken_out_are_gone.ensures.fewer_at ids links q) c.self.invariant
    (g.E.Engine.meaning c.delete.new.self.engine) (components_of g.E.Engine c.delete.new.self) c.remove_at.new.self
    c.delete.ensures.same.meaning c.in-Ok.ensures.done
    (c.remove_at.ensures ids (subst (AreMarked c.marks_of-leaving.result) (c.as_slice.ensures.value ∙ c.subtree-gone.ensures.ids) c.marks_of-leaving.ensures))

pub returns-in-Ok-clause-marks : goal.returns-in-Ok-clause-marks
returns-in-Ok-clause-marks g c =
    let i = c.self.inside in
    let id = c.args.id.0 in
    let before : Linked _ = record { tree = i.tree; links = i.links; marks = i.marks } in
    let after : Linked _ = record { tree = c.delete.new.self; links = c.remove_at.new.self; marks = c.mark_linked.new.marks } in
    let all = (components_of g.E.Engine i.tree).by_id in
    let ids = subtree all id in
    let are : AreMarked c.marks_of-leaving.result ids = subst (AreMarked c.marks_of-leaving.result) (c.as_slice.ensures.value ∙ c.subtree-gone.ensures.ids) c.marks_of-leaving.ensures in
    subst (λ (x : Linked _). KeepsAppMarks g.E.Engine (tree_above (components_of g.E.Engine x.tree).by_id id) (links_with (subtree (components_of g.E.Engine x.tree).by_id id) x.links) x after) c.self.view_is
    (keeps_app g.E.Engine (tree_above all id) (links_with ids i.links) before after c.delete.ensures.marks (c.mark_linked.ensures ids are)
    (λ q out. part_without_links ids i.links q out ∙ ap (link_part q) (sym (c.remove_at.ensures ids are))))
