use Rattle.sed_typed.proofs.SystemMethods.{goes_on}
use Rattle.sed_typed.proofs.laws.virtual_names_go_by_bases.Goals as goal

pub returns : goal.returns
returns c = goes_on
