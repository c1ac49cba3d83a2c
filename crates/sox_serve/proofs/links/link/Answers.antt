use Rattle.std.proofs.Common.{refl}
use Rattle.sox_msg.specs.Command.{link}
use Rattle.sox_serve.proofs.MarkLemmas.{marks_by_end}
use Rattle.sox_serve.proofs.links.link.Goals as goal

pub returns-clause-marks : goal.returns-clause-marks
returns-clause-marks g c =
    marks_by_end g.E.Engine c.args.app.now c.link-end.new.self (link c.args.l.from c.args.l.from_slot c.args.l.to c.args.l.to_slot) c.args.number c.reply_to.new.into c.link-end.result 76
    c.link-end.ensures.marks c.link-end.ensures.stays c.reply_to.ensures refl
