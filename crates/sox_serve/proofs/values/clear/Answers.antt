use Rattle.std.proofs.Common.{refl}
use Rattle.sox_msg.specs.Command.{clear}
use Rattle.sox_serve.proofs.MarkLemmas.{marks_by_end}
use Rattle.sox_serve.proofs.values.clear.Goals as goal

pub returns-clause-marks : goal.returns-clause-marks
returns-clause-marks g c =
    marks_by_end g.E.Engine c.args.app.now c.clear-end.new.self (clear c.args.id.0) c.args.number c.reply_to.new.into c.clear-end.result 88
    c.clear-end.ensures.marks c.clear-end.ensures.stays c.reply_to.ensures refl
