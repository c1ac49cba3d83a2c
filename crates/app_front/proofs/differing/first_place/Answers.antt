use Rattle.app_front.proofs.Places.{same_whole}
use Rattle.app_front.proofs.differing.first_place.Goals as goal

pub returns : goal.returns
returns c = same_whole _ _ _ c.loop-place-test.false c.loop-place.invariant
