use Rattle.sed_faults.proofs.Least.{least_together}
use Rattle.sed_faults.proofs.laws.least_of_two_lists.Goals as goal

pub returns : goal.returns
returns c xs ys = least_together xs ys
