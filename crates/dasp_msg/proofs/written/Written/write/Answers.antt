use Rattle.std.proofs.Common.{arith}
use Rattle.dasp_msg.proofs.WritingLemmas.{front-text, front-fits}
use Rattle.dasp_msg.proofs.written.Written.write.Goals as goal

pub invariant_of-self : goal.invariant_of-self
invariant_of-self c = front-fits _ _ _ _ c.write_msg-self-inside.ensures (omega arith)

pub returns : goal.returns
returns c = front-text _ _ _ _ c.write_msg-self-inside.ensures
