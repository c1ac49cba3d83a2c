use Rattle.std.proofs.Common.{ℕ, ◌∙◌, ap}
use Rattle.dasp_msg.specs.OfKind.{authenticate, hello}
use Rattle.replay_log.proofs.MessageLemmas.{puts-two}
use Rattle.replay_log.proofs.generate.greet.Goals as goal

pub returns : goal.returns
returns c =
    puts-two c.args.who _ _ _ _ _ _ _ (c.hello.ensures.says ∙ ap hello c.remote_id.ensures)
    (c.authenticate.ensures.says
    ∙ ap (λ (n : ℕ). authenticate n c.args.user.now c.args.digest.now) c.node_id.ensures)
    c.in_ok-put_message.ensures c.in_ok-put_message-2.ensures
