use Rattle.sed_layout.proofs.KeptPlaces.{system_methods}
use Rattle.sed_layout.proofs.table_laws.system_methods_have_the_first_places.Goals as goal

pub returns : goal.returns
returns c = system_methods
