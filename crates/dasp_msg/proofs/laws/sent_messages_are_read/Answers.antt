use Rattle.dasp_msg.proofs.SendingLemmas.{sent_is_read}
use Rattle.dasp_msg.proofs.laws.sent_messages_are_read.Goals as goal

pub returns : goal.returns
returns c = sent_is_read
