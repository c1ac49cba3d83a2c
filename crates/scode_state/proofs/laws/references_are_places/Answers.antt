use Rattle.scode_whole.proofs.Rule.{agrees}
use Rattle.scode_state.proofs.Blocks.{block_path}
use Rattle.scode_state.proofs.laws.references_are_places.Goals as goal

pub returns : goal.returns
returns c = λ image class base p q part tables a b. block_path image (agrees image tables) class base p q part a b
