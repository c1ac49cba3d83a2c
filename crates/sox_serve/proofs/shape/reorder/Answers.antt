use Rattle.std.proofs.Common.{refl}
use Rattle.sox_msg.specs.Command.{reorder}
use Rattle.sox_serve.proofs.MarkLemmas.{marks_by_end}
use Rattle.sox_serve.proofs.shape.reorder.Goals as goal

pub returns-clause-marks : goal.returns-clause-marks
returns-clause-marks g c =
    marks_by_end g.E.Engine c.args.app.now c.reorder-end.new.self (reorder c.args.id.0 c.args.children.now) c.args.number c.reply_to.new.into c.reorder-end.result 79
    c.reorder-end.ensures.marks c.reorder-end.ensures.stays c.reply_to.ensures refl
