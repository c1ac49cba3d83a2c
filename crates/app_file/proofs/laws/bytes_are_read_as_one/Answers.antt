use Rattle.app_file.proofs.OneReading.{one_reading}
use Rattle.app_file.proofs.laws.bytes_are_read_as_one.Goals as goal

pub returns : goal.returns
returns c = one_reading
