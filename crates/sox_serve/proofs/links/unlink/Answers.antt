use Rattle.std.proofs.Common.{refl}
use Rattle.sox_msg.specs.Command.{unlink}
use Rattle.sox_serve.proofs.MarkLemmas.{marks_by_end}
use Rattle.sox_serve.proofs.links.unlink.Goals as goal

pub returns-clause-marks : goal.returns-clause-marks
returns-clause-marks g c =
    marks_by_end g.E.Engine c.args.app.now c.unlink-end.new.self (unlink c.args.l.from c.args.l.from_slot c.args.l.to c.args.l.to_slot) c.args.number c.reply_to.new.into c.unlink-end.result 76
    c.unlink-end.ensures.marks c.unlink-end.ensures.stays c.reply_to.ensures refl
