use Rattle.std.proofs.Common.{refl}
use Rattle.sox_msg.specs.Answered as told
use Rattle.sox_msg.specs.Command.{delete}
use Rattle.sox_serve.proofs.MarkLemmas.{marks_done, marks_stay}
use Rattle.sox_serve.proofs.shape.delete.Goals as goal

pub returns-in-Ok-clause-marks : goal.returns-in-Ok-clause-marks
returns-in-Ok-clause-marks g c =
    marks_done g.E.Engine c.args.app.now c.delete.new.self (delete c.args.id.0) c.args.number c.reply_done.new.into (told.done 68) c.in-Ok.ensures.marks c.reply_done.ensures refl

pub returns-in-Err-clause-marks : goal.returns-in-Err-clause-marks
returns-in-Err-clause-marks g c = marks_stay g.E.Engine c.args.app.now c.delete.new.self (delete c.args.id.0) c.args.number c.reply_refused.new.into c.in-Err.ensures.stays
