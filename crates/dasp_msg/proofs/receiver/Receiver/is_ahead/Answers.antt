use Rattle.std.proofs.Common.{sym, subst}
use Rattle.dasp_msg.specs.Receiving.{GapBits, ReceivesLike}
use Rattle.dasp_msg.proofs.AheadLemmas.{is_ahead-bits}
use Rattle.dasp_msg.proofs.receiver.Receiver.is_ahead.Goals as goal

pub returns : goal.returns
returns c = λ taken like.
    let kept : GapBits = record { gap = c.self.inside.gap; bits = c.self.inside.bits; far = c.self.inside.far } in
    is_ahead-bits kept taken (subst (λ (k : GapBits). ReceivesLike k taken) (sym c.self.view_is) like) c.self.invariant
