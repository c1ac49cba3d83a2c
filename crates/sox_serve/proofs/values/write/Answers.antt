use Rattle.std.proofs.Common.{refl}
use Rattle.sox_msg.specs.Command.{write}
use Rattle.sox_serve.proofs.MarkLemmas.{marks_by_end}
use Rattle.sox_serve.proofs.values.write.Goals as goal

pub returns-clause-marks : goal.returns-clause-marks
returns-clause-marks g c =
    marks_by_end g.E.Engine c.args.app.now c.write-end.new.self (write c.args.input.id.0 c.args.input.slot c.args.input.bytes.now) c.args.number c.reply_to.new.into c.write-end.result 87
    c.write-end.ensures.marks c.write-end.ensures.stays c.reply_to.ensures refl
