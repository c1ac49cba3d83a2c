use Rattle.sed_typed.proofs.VirtualNames.{are_counted}
use Rattle.sed_typed.proofs.laws.virtual_names_are_counted.Goals as goal

pub returns : goal.returns
returns c = are_counted
