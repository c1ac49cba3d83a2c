use Rattle.scode_sound.specs.Potential.{potential}
use Rattle.scode_engine.specs.AtWork.{point_of, running_on, setting_of}
use Rattle.scode_engine.specs.Root.{rooted}
use Rattle.scode_engine.proofs.Steps.{Reaches}
use Rattle.scode_engine.proofs.looping.run.Given as goal

abbrev pub invariant-steps : goal.invariant-steps
invariant-steps l =
    Reaches (rooted l.call) (running_on l.fn.cells l.fn.pool l.fn.left) (running_on l.cells l.pool l.left)

-- each step leaves less to do
abbrev pub decreases-steps : goal.decreases-steps
decreases-steps l =
    potential (setting_of (rooted l.call)) (point_of (rooted l.call) (running_on l.cells l.pool l.left))
