use Rattle.sed_layout.proofs.KeptPlaces.{has_place}
use Rattle.sed_layout.proofs.table_laws.virtual_methods_have_places.Goals as goal

pub returns : goal.returns
returns c = has_place
