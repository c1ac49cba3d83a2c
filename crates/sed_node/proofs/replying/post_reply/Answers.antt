use Rattle.std.proofs.Common.{List, ℕ, subst}
use Rattle.dasp_session.specs.Receive.{post_of}
use Rattle.dasp_session.specs.Standing.{Leaves}
use Rattle.sed_wire.proofs.WritingLemmas.{puts-taken}
use Rattle.sed_node.proofs.replying.post_reply.Goals as goal

pub returns-clause-leaves : goal.returns-clause-leaves
returns-clause-leaves c = λ state stands.
    subst (λ (bytes : List ℕ). Leaves (post_of state c.args.place bytes) c.post.new.self c.args.out.now c.post.new.out)
    (puts-taken _ _ _ _ c.write_reply-count.ensures)
    (c.post.ensures.leaves state stands)
