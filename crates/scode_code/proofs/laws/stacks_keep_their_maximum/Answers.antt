use Rattle.scode_code.proofs.Verifies.{stack_is_low}
use Rattle.scode_code.proofs.laws.stacks_keep_their_maximum.Goals as goal

pub returns : goal.returns
returns c = stack_is_low
