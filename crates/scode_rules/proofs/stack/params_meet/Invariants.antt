use Rattle.std.proofs.Common.{◌≡◌, reverse}
use Rattle.scode_rules.proofs.Meeting.{meet_from}
use Rattle.scode_rules.proofs.stack.params_meet.Given as goal

-- those that are left are met exactly where all are
abbrev pub invariant-loop-depth : goal.invariant-loop-depth
invariant-loop-depth l = meet_from l.image l.params (reverse l.stack) l.depth ≡ meet_from l.image l.params (reverse l.stack) 0
