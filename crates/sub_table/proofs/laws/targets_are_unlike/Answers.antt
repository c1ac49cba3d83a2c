use Rattle.sub_table.proofs.LawLemmas.{one_into}
use Rattle.sub_table.proofs.laws.targets_are_unlike.Goals as goal

pub returns : goal.returns
returns c = one_into
