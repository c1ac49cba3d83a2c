use Rattle.sed_check.proofs.Agreeing.{names_mean}
use Rattle.sed_check.proofs.meant_laws.names_mean_what_a_program_has.Goals as goal

pub returns : goal.returns
returns c = names_mean
