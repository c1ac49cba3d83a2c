use Rattle.sed_bodies.proofs.OperandsRight.{truth_right as is_right}
use Rattle.sed_bodies.proofs.laws.truth_right.Goals as goal

pub returns : goal.returns
returns c x k at t p = is_right x k at t p
