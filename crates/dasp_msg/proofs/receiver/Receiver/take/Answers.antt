use Rattle.std.proofs.Common.{sym, subst, arith}
use Rattle.dasp_msg.specs.Receiving.{GapBits, ReceivesLike}
use Rattle.dasp_msg.proofs.ReceiverLemmas.{repeat_below}
use Rattle.dasp_msg.proofs.receiver.Receiver.take.Goals as goal

pub returns-then-is_behind-clause-answer : goal.returns-then-is_behind-clause-answer
returns-then-is_behind-clause-answer c = λ taken like.
    let kept : GapBits = record { gap = c.self.inside.gap; bits = c.self.inside.bits; far = c.self.inside.far } in
    repeat_below kept taken c.args.number (subst (λ (k : GapBits). ReceivesLike k taken) (sym c.self.view_is) like) (omega arith) (sym c.if-is_behind.ensures)
