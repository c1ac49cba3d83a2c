use Rattle.std.proofs.Common.{sym, subst}
use Rattle.dasp_msg.specs.Receiving.{GapBits, ReceivesLike}
use Rattle.dasp_msg.proofs.ReceiverLemmas.{SaysMore-bytes}
use Rattle.dasp_msg.proofs.receiver.Receiver.ack.Goals as goal

pub returns-clause-more : goal.returns-clause-more
returns-clause-more c = λ taken like.
    let kept : GapBits = record { gap = c.self.inside.gap; bits = c.self.inside.bits; far = c.self.inside.far } in
    rw c.to_le_bytes.ensures (SaysMore-bytes kept taken (subst (λ (k : GapBits). ReceivesLike k taken) (sym c.self.view_is) like))
