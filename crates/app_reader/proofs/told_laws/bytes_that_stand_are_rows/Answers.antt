use Rattle.app_reader.proofs.Telling.{are_told}
use Rattle.app_reader.proofs.told_laws.bytes_that_stand_are_rows.Goals as goal

pub returns : goal.returns
returns c = are_told
