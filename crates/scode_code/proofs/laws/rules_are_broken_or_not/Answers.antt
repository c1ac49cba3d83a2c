use Rattle.scode_code.proofs.Firsts.{breaks_none}
use Rattle.scode_code.proofs.laws.rules_are_broken_or_not.Goals as goal

pub returns : goal.returns
returns c = breaks_none
