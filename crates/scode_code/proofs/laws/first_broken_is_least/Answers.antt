use Rattle.scode_code.proofs.Firsts.{broken_first}
use Rattle.scode_code.proofs.laws.first_broken_is_least.Goals as goal

pub returns : goal.returns
returns c = broken_first
