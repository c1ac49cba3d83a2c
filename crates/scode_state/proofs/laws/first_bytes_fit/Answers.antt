use Rattle.scode_whole.proofs.Rule.{agrees}
use Rattle.scode_state.proofs.FirstBytes.{first_class, first_statics}
use Rattle.scode_state.proofs.laws.first_bytes_fit.Goals as goal

pub returns-clause-class : goal.returns-clause-class
returns-clause-class c = λ image class tables. first_class image (agrees image tables) class

pub returns-clause-statics : goal.returns-clause-statics
returns-clause-statics c = λ image class tables. first_statics image (agrees image tables) class
