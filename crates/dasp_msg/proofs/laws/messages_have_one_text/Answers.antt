use Rattle.dasp_msg.specs.Sending.{header_of, sent_fields}
use Rattle.dasp_msg.proofs.SendingLemmas.{datagram-one, datagram-size}
use Rattle.dasp_msg.proofs.laws.messages_have_one_text.Goals as goal

pub returns-clause-one : goal.returns-clause-one
returns-clause-one c =
    λ m a b of_a of_b. datagram-one (header_of m) (sent_fields m.kind m) m.payload a b of_a of_b

pub returns-clause-size : goal.returns-clause-size
returns-clause-size c = λ m a of_a. datagram-size (header_of m) (sent_fields m.kind m) m.payload a of_a
