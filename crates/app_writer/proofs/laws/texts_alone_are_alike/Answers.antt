use Rattle.app_writer.proofs.AlikeTexts.{texts_alike}
use Rattle.app_writer.proofs.laws.texts_alone_are_alike.Goals as goal

pub returns : goal.returns
returns c = texts_alike
