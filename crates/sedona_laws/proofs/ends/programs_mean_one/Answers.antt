use Rattle.sedona_laws.proofs.Meant as meant
use Rattle.sedona_laws.proofs.ends.programs_mean_one.Goals as goal

pub returns : goal.returns
returns c = meant.programs_mean_one
