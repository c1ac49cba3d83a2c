use Rattle.app_reader.proofs.Telling.{rows_stand}
use Rattle.app_reader.proofs.told_laws.rows_that_tell_stand.Goals as goal

pub returns : goal.returns
returns c = rows_stand
