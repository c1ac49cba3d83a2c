use Rattle.replay_log.proofs.RecordLemmas.{no_refusal, one_place}
use Rattle.replay_log.proofs.laws.refusals_are_one.Goals as goal

pub returns-clause-place : goal.returns-clause-place
returns-clause-place c = one_place

pub returns-clause-apart : goal.returns-clause-apart
returns-clause-apart c = no_refusal
