use Rattle.replay_log.proofs.making.carrying.Goals as goal

pub datagram-requires-clause-four : goal.datagram-requires-clause-four
datagram-requires-clause-four c = λ x is. absurd cc
