use Rattle.std.proofs.Common.{sym, ◌∙◌, ap, subst}
use Rattle.sed_engine.specs.declared.call.Callback.TheVariants.{Changed}
use Rattle.sed_engine.specs.declared.call.Root.TheVariants.{Callback}
use Rattle.comp_tree.specs.Calls.{callback_argument}
use Rattle.comp_tree.specs.Marks.{KeepsMarks, values_at}
use Rattle.link_prop.proofs.AlikeComponents.{alike_run, class_at}
use Rattle.link_prop.proofs.CopiedMarks.{keeps_more}
use Rattle.std.specs.Prelude.{IsTrue}
use Rattle.sub_table.specs.Link.{Link}
use Rattle.comp_tree.specs.Application.{Components, is_live}
use Rattle.comp_tree.specs.Held.{components_of}
use Rattle.comp_tree.specs.Whole.{IsLink}
use Rattle.link_prop.proofs.CopiedLinks.{live_copied}
use Rattle.link_prop.proofs.app.copying.copy_one.Goals as goal

pub callback-end-requires : goal.callback-end-requires
callback-end-requires g c =
    let m = g.E.Engine.meaning c.args.tree.now.engine in
    let a = components_of g.E.Engine c.args.tree.now in
    let i = c.link.inside in
    let l : Link = record { from = i.from.0; from_slot = i.from_slot; to = i.to.0; to_slot = i.to_slot } in
    let is : IsLink m a.by_id l = subst (IsLink m a.by_id) (sym c.link.view_is) c.requires in
    subst (λ (a : Components). IsTrue (is_live a.by_id i.to.0)) (sym c.copy.ensures.copied) (live_copied m a l is.to)

pub returns-clause-marks : goal.returns-clause-marks
returns-clause-marks g c =
    let i = c.link.inside in
    let mid = c.copy.new.self in
    subst (λ (l : Link). KeepsMarks g.E.Engine (values_at l.to) c.args.tree.now c.callback-end.new.self) c.link.view_is
    (keeps_more g.E.Engine i.to.0 c.args.tree.now mid c.callback-end.new.self c.copy.ensures.marks c.callback-end.ensures.marks
    (λ q. ap (λ (b : Components). class_at b.by_id q) c.callback-end.ensures.left
    ∙ alike_run (g.E.Engine.meaning mid.engine) (components_of g.E.Engine mid) i.to.0 (Callback Changed) (callback_argument Changed i.to_slot) c.args.turns _ q))
