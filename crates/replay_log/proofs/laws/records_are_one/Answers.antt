use Rattle.replay_log.proofs.RecordLemmas.{one_record, one_record_text}
use Rattle.replay_log.proofs.laws.records_are_one.Goals as goal

pub returns-clause-entries : goal.returns-clause-entries
returns-clause-entries c = one_record

pub returns-clause-bytes : goal.returns-clause-bytes
returns-clause-bytes c = λ a b entries. one_record_text a b entries
