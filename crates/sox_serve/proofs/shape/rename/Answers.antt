use Rattle.std.proofs.Common.{refl}
use Rattle.sox_msg.specs.Command.{rename}
use Rattle.sox_serve.proofs.MarkLemmas.{marks_by_end}
use Rattle.sox_serve.proofs.shape.rename.Goals as goal

pub returns-clause-marks : goal.returns-clause-marks
returns-clause-marks g c =
    marks_by_end g.E.Engine c.args.app.now c.rename-end.new.self (rename c.args.id.0 c.args.name.now) c.args.number c.reply_to.new.into c.rename-end.result 78
    c.rename-end.ensures.marks c.rename-end.ensures.stays c.reply_to.ensures refl
