use Rattle.sed_typed.proofs.Nearest.{overridden_below}
use Rattle.sed_typed.proofs.laws.virtual_methods_are_overridden.Goals as goal

pub returns : goal.returns
returns c = overridden_below
