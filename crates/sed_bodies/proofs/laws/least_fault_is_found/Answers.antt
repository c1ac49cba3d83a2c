use Rattle.sed_bodies.proofs.ExpressionsTold.{judge_told}
use Rattle.sed_bodies.proofs.laws.least_fault_is_found.Goals as goal

pub returns : goal.returns
returns c n b s t = judge_told c.least_of_two_lists.ensures n b s t
