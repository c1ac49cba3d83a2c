use Rattle.replay_log.proofs.OneRecord.{one_generated}
use Rattle.replay_log.proofs.laws.generated_records_are_one.Goals as goal

pub returns : goal.returns
returns c = one_generated
