use Rattle.std.proofs.Common.{arith}
use Rattle.kit_manifest.proofs.order.first_unknown.Goals as goal

pub returns : goal.returns
returns c = λ i within has. c.loop-place.invariant i (omega (arith, within)) has
