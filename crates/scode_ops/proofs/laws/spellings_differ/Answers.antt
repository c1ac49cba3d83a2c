use Rattle.scode_ops.proofs.CodeLemmas.{front_is_whole}
use Rattle.scode_ops.proofs.laws.spellings_differ.Goals as goal

pub returns : goal.returns
returns c = front_is_whole
