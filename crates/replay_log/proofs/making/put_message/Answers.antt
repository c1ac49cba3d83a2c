use Rattle.std.proofs.Common.{arith}
use Rattle.std.proofs.lemmas.Grind.{common_steps}
use Rattle.replay_log.proofs.MessageLemmas.{puts-front}
use Rattle.replay_log.proofs.making.put_message.Goals as goal

pub returns : goal.returns
returns c =
    puts-front c.args.who _ _ _ _ _ _ _ c.write_msg-count.ensures c.in_ok-put_datagram.ensures
    (grind (arith, common_steps))
