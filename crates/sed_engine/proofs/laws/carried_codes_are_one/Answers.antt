use Rattle.sed_engine.proofs.OneCode.{one_code}
use Rattle.sed_engine.proofs.laws.carried_codes_are_one.Goals as goal

pub returns : goal.returns
returns c m n p r carries = one_code carries p r
