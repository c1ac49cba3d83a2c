use Rattle.std.proofs.Common.{◌-◌, length}
use Rattle.sed_node.specs.Standing.{code_of}
use Rattle.sed_node.proofs.Turns.{Turn}
use Rattle.sed_node.proofs.kept.Kept.tell.Given as goal

-- to go on from what was told so far comes to all that is told
abbrev pub invariant-events : goal.invariant-events
invariant-events g l = Turn g.E.Engine (code_of g.E.Engine l.fn.self) l.place l.fn.self l.self l.fn.out l.out

abbrev pub decreases-events : goal.decreases-events
decreases-events g l = 512 - length l.out
