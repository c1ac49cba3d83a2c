use Rattle.app_file.proofs.FrontsOfFiles.{one_front}
use Rattle.app_file.proofs.laws.fronts_are_one.Goals as goal

pub returns : goal.returns
returns c = one_front
