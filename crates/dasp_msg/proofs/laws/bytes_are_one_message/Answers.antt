use Rattle.dasp_msg.proofs.MessageLemmas.{one_message}
use Rattle.dasp_msg.proofs.laws.bytes_are_one_message.Goals as goal

pub returns : goal.returns
returns c = one_message
