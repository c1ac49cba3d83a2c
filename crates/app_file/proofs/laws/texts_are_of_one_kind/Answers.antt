use Rattle.app_file.proofs.EighthByte.{of_one_kind}
use Rattle.app_file.proofs.laws.texts_are_of_one_kind.Goals as goal

pub returns : goal.returns
returns c = of_one_kind
