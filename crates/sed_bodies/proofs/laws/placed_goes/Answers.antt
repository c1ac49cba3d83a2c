use Rattle.sed_bodies.proofs.StoresRight.{placed_goes as goes}
use Rattle.sed_bodies.proofs.laws.placed_goes.Goals as goal

pub returns : goal.returns
returns c x k below same to is t h = goes x k below same to is t h
