use Rattle.sed_check.proofs.Told.{params_told}
use Rattle.sed_check.proofs.judged_laws.least_fault_of_params_is_found.Goals as goal

pub returns : goal.returns
returns c = params_told c.least_of_two_lists.ensures
