use Rattle.std.proofs.Common.{ℤ, ℕ, ◌≡◌, Err, refl, ap, subst, w64}
use Rattle.std.proofs.lemmas.Int.{to_z-of_z}
use Rattle.comp_tree.specs.Edit.{class_or_none}
use Rattle.comp_tree.specs.Edits.{after_add}
use Rattle.comp_tree.specs.Held.{components_of}
use Rattle.link_prop.specs.Marks.{KeepsAppMarks, added_at, links_of_new}
use Rattle.sox_msg.specs.Answered as told
use Rattle.sox_msg.specs.Command.{add}
use Rattle.sox_serve.proofs.AnswerLemmas.{serves_added, serves_refused}
use Rattle.sox_serve.proofs.MarkLemmas.{marks_done, marks_nothing}
use Rattle.sox_serve.proofs.shape.add.Goals as goal

pub returns-in-Ok-clause-served : goal.returns-in-Ok-clause-served
returns-in-Ok-clause-served g c =
    let m = g.E.Engine.meaning c.args.app.now.tree.engine in
    let all = components_of g.E.Engine c.args.app.now.tree in
    let after = λ (t : ℤ). (after_add m all c.args.asked.parent.0 (class_or_none m c.args.asked.kit c.args.asked.number) c.args.asked.name.now c.args.asked.config.now c.args.turns t).left in
    let done = subst (λ (t : ℤ). components_of g.E.Engine c.add.new.self.tree ≡ after t) (to_z-of_z w64 c.args.ticks c.ranges.ticks) c.in-Ok.ensures.done in
    serves_added g.E.Engine c.args.app.now c.add.new.self c.args.asked.parent.0 c.args.asked.kit c.args.asked.number c.args.asked.name.now c.args.asked.config.now c.args.number c.args.turns c.args.ticks
    c.in-Ok.id.0 c.reply_added.new.into c.in-Ok.ensures.id c.in-Ok.ensures.allowed done c.in-Ok.ensures.links c.reply_added.ensures
    c.in-Ok.ensures.same.meaning c.in-Ok.ensures.same.steady c.in-Ok.ensures.marks.tells

pub returns-in-Err-clause-served : goal.returns-in-Err-clause-served
returns-in-Err-clause-served g c =
    serves_refused g.E.Engine c.args.app.now c.add.new.self c.args.asked.parent.0 c.args.asked.kit c.args.asked.number c.args.asked.name.now c.args.asked.config.now c.args.number c.args.turns c.args.ticks
    c.in-Err.refusal c.reply_refused.new.into c.in-Err.ensures.refused (λ same. c.in-Err.ensures.memory (ap Err same))
    c.in-Err.ensures.stays c.in-Err.ensures.links c.reply_refused.ensures c.in-Err.ensures.same.meaning c.in-Err.ensures.same.steady
    c.in-Err.ensures.marks.tells

pub returns-in-Ok-clause-marks : goal.returns-in-Ok-clause-marks
returns-in-Ok-clause-marks g c =
    let asked = add c.args.asked.parent.0 c.args.asked.kit c.args.asked.number c.args.asked.name.now c.args.asked.config.now in
    let row = subst (λ (new : ℕ). KeepsAppMarks g.E.Engine (added_at c.args.asked.parent.0 new) (links_of_new new) c.args.app.now c.add.new.self) c.in-Ok.ensures.id c.in-Ok.ensures.marks in
    marks_done g.E.Engine c.args.app.now c.add.new.self asked c.args.number c.reply_added.new.into (told.added c.in-Ok.id.0) row c.reply_added.ensures refl

pub returns-in-Err-clause-marks : goal.returns-in-Err-clause-marks
returns-in-Err-clause-marks g c =
    marks_nothing g.E.Engine c.args.app.now c.add.new.self (add c.args.asked.parent.0 c.args.asked.kit c.args.asked.number c.args.asked.name.now c.args.asked.config.now) c.args.number c.reply_refused.new.into c.in-Err.ensures.marks
