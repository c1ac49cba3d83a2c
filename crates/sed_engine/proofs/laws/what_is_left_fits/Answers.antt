use Rattle.sed_engine.proofs.RootsFit.{roots_fit}
use Rattle.sed_engine.proofs.laws.what_is_left_fits.Goals as goal

pub returns : goal.returns
returns c program = roots_fit program
