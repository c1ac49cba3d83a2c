use Rattle.std.proofs.Common.{ℕ, ◌+◌, ◌*◌, ap}
use Rattle.dasp_msg.proofs.WritingLemmas.{header-put}
use Rattle.dasp_msg.proofs.writing.put_header.Goals as goal

pub returns : goal.returns
returns c =
    header-put c.args.header.now _ _ _ _ _ c.requires.few
    (ap (λ (n : ℕ). 16 * n + c.args.header.now.count) c.number.ensures) c.put_u2.ensures.spells c.put_u2-2.ensures.spells
    c.put_u1.ensures.spells
