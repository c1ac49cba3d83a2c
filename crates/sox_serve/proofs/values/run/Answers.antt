use Rattle.std.proofs.Common.{refl}
use Rattle.sox_msg.specs.Answered as told
use Rattle.sox_msg.specs.Command.{invoke}
use Rattle.sox_serve.proofs.MarkLemmas.{marks_done, marks_stay, run_by_row}
use Rattle.sox_serve.proofs.values.run.Goals as goal

pub returns-in-Ok-clause-marks : goal.returns-in-Ok-clause-marks
returns-in-Ok-clause-marks g c =
    marks_done g.E.Engine c.args.app.now c.invoke.new.self (invoke c.args.input.id.0 c.args.input.slot c.args.input.bytes.now) c.args.number c.reply_to.new.into (told.done 73)
    (run_by_row g.E.Engine c.args.app.now c.invoke.new.self c.args.input.id.0 c.args.input.slot c.args.input.bytes.now c.requires c.in-Ok.ensures.marks) c.reply_to.ensures refl

pub returns-in-Err-clause-marks : goal.returns-in-Err-clause-marks
returns-in-Err-clause-marks g c =
    marks_stay g.E.Engine c.args.app.now c.invoke.new.self (invoke c.args.input.id.0 c.args.input.slot c.args.input.bytes.now) c.args.number c.reply_to-in-Err.new.into c.in-Err.ensures.stays
