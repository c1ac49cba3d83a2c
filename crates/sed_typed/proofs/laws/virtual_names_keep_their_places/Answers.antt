use Rattle.sed_typed.proofs.SystemMethods.{keep_places}
use Rattle.sed_typed.proofs.laws.virtual_names_keep_their_places.Goals as goal

pub returns : goal.returns
returns c = keep_places
