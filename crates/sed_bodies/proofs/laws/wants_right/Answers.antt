use Rattle.sed_bodies.proofs.OperandsRight.{ints_right}
use Rattle.sed_bodies.proofs.laws.wants_right.Goals as goal

pub returns : goal.returns
returns c x at t p = ints_right x at t p
