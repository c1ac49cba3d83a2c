use Rattle.scode_whole.proofs.Rule.{agrees}
use Rattle.scode_state.proofs.Found.{spot_found}
use Rattle.scode_state.proofs.laws.references_are_found.Goals as goal

pub returns : goal.returns
returns c = λ image class r spot tables ref base e. spot_found image (agrees image tables) class r spot ref base e
