use Rattle.app_file.proofs.OneApplication.{one_application}
use Rattle.app_file.proofs.laws.texts_stand_for_one.Goals as goal

pub returns : goal.returns
returns c = λ m limit bytes a b tables told. one_application m limit bytes a b tables told.numbers
