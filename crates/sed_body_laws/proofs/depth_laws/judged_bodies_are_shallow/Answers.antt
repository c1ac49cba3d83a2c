use Rattle.sed_body_laws.proofs.DeepBodies.{method_depth, method_height}
use Rattle.sed_body_laws.proofs.depth_laws.judged_bodies_are_shallow.Goals as goal

-- src/laws.rt:15:1
pub returns-clause-depth : goal.returns-clause-depth
returns-clause-depth g c = method_depth

-- src/laws.rt:15:1
pub returns-clause-height : goal.returns-clause-height
returns-clause-height g c = method_height
