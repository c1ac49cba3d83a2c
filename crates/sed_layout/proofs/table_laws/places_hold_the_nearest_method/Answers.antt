use Rattle.sed_layout.proofs.FoundMethods.{at_its_place}
use Rattle.sed_layout.proofs.table_laws.places_hold_the_nearest_method.Goals as goal

pub returns : goal.returns
returns c = at_its_place
