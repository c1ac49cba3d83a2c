use Rattle.scode_mem.specs.Kept.{parts}
use Rattle.scode_mem.proofs.Moving.{ClosingUp}
use Rattle.scode_mem.proofs.moves.close_up.Given as goal

abbrev pub invariant-loop-place : goal.invariant-loop-place
invariant-loop-place l =
    ClosingUp (parts l.firsts l.initial.bytes l.initial.directory) (parts l.firsts l.bytes l.directory) l.places l.place-index l.end
