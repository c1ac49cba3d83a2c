use Rattle.scode_whole.proofs.Rule.{agrees}
use Rattle.scode_state.proofs.Present.{parts_read}
use Rattle.scode_state.proofs.laws.parts_are_read.Goals as goal

pub returns : goal.returns
returns c = λ image class base path bytes tables. parts_read image (agrees image tables) class base bytes path
