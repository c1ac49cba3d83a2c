use Rattle.app_front.specs.Differing.{AreSameTo}
use Rattle.app_front.proofs.differing.first_place.Given as goal

-- before this place they are the same
abbrev pub invariant-loop-place : goal.invariant-loop-place
invariant-loop-place l = AreSameTo l.file l.kits l.place
