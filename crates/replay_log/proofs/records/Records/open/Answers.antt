use Rattle.replay_log.proofs.RecordLemmas.{opened-only, opened-refused}
use Rattle.replay_log.proofs.records.Records.open.Goals as goal

pub returns-clause-only : goal.returns-clause-only
returns-clause-only c = opened-only _ _ c.record_or_place.ensures

pub returns-clause-refused_comes : goal.returns-clause-refused_comes
returns-clause-refused_comes c = opened-refused _ _ c.record_or_place.ensures
