use Rattle.sed_layout.proofs.KeptPlaces.{above_places, base_places}
use Rattle.sed_layout.proofs.table_laws.names_keep_their_places.Goals as goal

pub returns-clause-base : goal.returns-clause-base
returns-clause-base c = base_places

pub returns-clause-above : goal.returns-clause-above
returns-clause-above c = above_places
