use Rattle.sed_typed.proofs.Nearest.{plain_below}
use Rattle.sed_typed.proofs.laws.plain_methods_are_found_below.Goals as goal

pub returns : goal.returns
returns c = plain_below
