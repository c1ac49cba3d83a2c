use Rattle.std.proofs.Common.{◌≡◌, ◌≢◌, false, Some, None, Err, refl, subst}
use Rattle.std.specs.Prelude.{IfErr, MatchResult}
use Rattle.sed_value.specs.declared.id.Id.{Id}
use Rattle.sed_value.specs.declared.refusal.Refusal.TheVariants.{OutOfMemory}
use Rattle.comp_tree.specs.Edit.{class_or_none}
use Rattle.comp_tree.specs.Held.{components_of}
use Rattle.comp_tree.specs.Order.{least_free}
use Rattle.comp_tree.specs.Refusals.{first_refusal, refusals_of_add}
use Rattle.link_prop.specs.Linked.{Linked}
use Rattle.link_prop.specs.Marks.{KeepsAppMarks, added_at, links_of_new, no_links, no_marks}
use Rattle.link_prop.proofs.AppMarks.{added_set, keeps_added}
use Rattle.link_prop.proofs.AlikeComponents.{after_added, linked_after_add, linked_same}
use Rattle.link_prop.proofs.app.App.add.Goals as goal

pub invariant_of-self : goal.invariant_of-self
invariant_of-self g c =
    after_added (components_of g.E.Engine c.self.inside.tree).by_id
    (least_free (components_of g.E.Engine c.self.inside.tree).by_id) c.add-added.result c.add-added.ensures.id c.add-added.ensures.fresh c.add-added.ensures.done c.add-added.ensures.stays
    (λ free is. linked_after_add (g.E.Engine.meaning c.self.inside.tree.engine) (g.E.Engine.meaning c.add-added.new.self.engine)
    (components_of g.E.Engine c.self.inside.tree) (components_of g.E.Engine c.add-added.new.self) c.self.inside.links
    c.self.invariant c.add-added.ensures.same.meaning
    c.args.asked.parent.0 (class_or_none (g.E.Engine.meaning c.self.inside.tree.engine) c.args.asked.kit c.args.asked.number)
    c.args.asked.name.now c.args.asked.config.now c.args.turns _ free is)
    (λ is. linked_same (g.E.Engine.meaning c.self.inside.tree.engine) (g.E.Engine.meaning c.add-added.new.self.engine)
    (components_of g.E.Engine c.self.inside.tree) (components_of g.E.Engine c.add-added.new.self) c.self.inside.links
    c.self.invariant c.add-added.ensures.same.meaning is)

pub returns-clause-refused : goal.returns-clause-refused
returns-clause-refused g c =
    subst
    (λ (x : Linked _). IfErr c.add-added.result (λ refusal. refusal ≢ OutOfMemory → first_refusal (refusals_of_add (g.E.Engine.meaning x.tree.engine) (components_of g.E.Engine x.tree) c.args.asked.parent.0 c.args.asked.kit c.args.asked.number c.args.asked.name.now c.args.asked.config.now) ≡ Some refusal))
    c.self.view_is c.add-added.ensures.refused

pub returns-clause-memory : goal.returns-clause-memory
returns-clause-memory g c =
    subst
    (λ (x : Linked _). c.add-added.result ≡ Err OutOfMemory → (g.E.Engine.fixed x.tree.engine ≡ false) × (first_refusal (refusals_of_add (g.E.Engine.meaning x.tree.engine) (components_of g.E.Engine x.tree) c.args.asked.parent.0 c.args.asked.kit c.args.asked.number c.args.asked.name.now c.args.asked.config.now) ≡ None))
    c.self.view_is c.add-added.ensures.memory

pub returns-clause-marks : goal.returns-clause-marks
returns-clause-marks g c =
    let i = c.self.inside in
    let before : Linked _ = record { tree = i.tree; links = i.links; marks = i.marks } in
    let after : Linked _ = record { tree = c.add-added.new.self; links = i.links; marks = c.mark_added.new.marks } in
    subst
    (λ (x : Linked _). MatchResult c.add-added.result (λ (id : Id). KeepsAppMarks g.E.Engine (added_at c.args.asked.parent.0 id.0) (links_of_new id.0) x after) (λ _. KeepsAppMarks g.E.Engine no_marks no_links x after))
    c.self.view_is (keeps_added g.E.Engine c.args.asked.parent.0 before after c.add-added.result c.add-added.ensures.marks c.mark_added.ensures refl)

pub returns-clause-set : goal.returns-clause-set
returns-clause-set g c =
    added_set (record { tree = c.add-added.new.self; links = c.self.inside.links; marks = c.mark_added.new.marks }) c.self.inside.marks c.add-added.result c.add-added.ensures.set c.mark_added.ensures
