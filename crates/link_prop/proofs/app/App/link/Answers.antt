use Rattle.std.proofs.Common.{refl, sym, ◌∙◌, ap, subst}
use Rattle.comp_tree.specs.Parts.{link_part}
use Rattle.comp_tree.specs.Held.{components_of}
use Rattle.link_prop.specs.Linked.{AreLinked, Linked}
use Rattle.link_prop.specs.Marks.{KeepsAppMarks, links_at_ends, no_marks}
use Rattle.link_prop.proofs.AppMarks.{keeps_links}
use Rattle.link_prop.proofs.ChangedLinks.{has_room, linked_with, no_target}
use Rattle.link_prop.proofs.LinkParts.{part_with_link}
use Rattle.link_prop.proofs.app.App.link.Goals as goal

pub invariant_of-self : goal.invariant_of-self
invariant_of-self g c =
    subst (AreLinked (g.E.Engine.meaning c.self.inside.tree.engine) (components_of g.E.Engine c.self.inside.tree).by_id)
    (sym c.insert.ensures)
    (linked_with (g.E.Engine.meaning c.self.inside.tree.engine) (components_of g.E.Engine c.self.inside.tree).by_id
    c.self.inside.links c.args.l (sym c.refusal_of_link.ensures ∙ c.in-None.is)
    (c.a_new_link_joins_the_others.ensures.count c.args.l c.self.inside.links) c.self.invariant)

pub insert-requires : goal.insert-requires
insert-requires g c =
    let none = sym c.refusal_of_link.ensures ∙ c.in-None.is in
    record {
      target = no_target (g.E.Engine.meaning c.self.inside.tree.engine) (components_of g.E.Engine c.self.inside.tree).by_id
          c.self.inside.links c.args.l none;
      room = has_room (g.E.Engine.meaning c.self.inside.tree.engine) (components_of g.E.Engine c.self.inside.tree).by_id
          c.self.inside.links c.args.l none;
    }

pub returns-in-None-clause-marks : goal.returns-in-None-clause-marks
returns-in-None-clause-marks g c =
    let i = c.self.inside in
    let after : Linked _ = record { tree = i.tree; links = c.insert.new.self; marks = c.mark_ends.new.marks } in
    subst (λ (x : Linked _). KeepsAppMarks g.E.Engine no_marks (links_at_ends c.args.l) x after) c.self.view_is
    (keeps_links g.E.Engine no_marks (links_at_ends c.args.l) (record { tree = i.tree; links = i.links; marks = i.marks }) after refl c.mark_ends.ensures
    (λ id out. part_with_link c.args.l i.links id out ∙ ap (link_part id) (sym c.insert.ensures)))
