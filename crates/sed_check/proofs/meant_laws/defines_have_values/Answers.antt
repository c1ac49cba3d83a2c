use Rattle.sed_check.proofs.Defines.{have_defines}
use Rattle.sed_check.proofs.meant_laws.defines_have_values.Goals as goal

pub returns : goal.returns
returns c = have_defines
