use Rattle.std.proofs.Common.{drop}
use Rattle.sed_rules.proofs.Rising.{AreRising}
use Rattle.sed_rules.proofs.apart.are_apart.Given as goal

-- if those that are left stand behind the end, all stand one behind the other
abbrev pub invariant-loop-member : goal.invariant-loop-member
invariant-loop-member l = AreRising l.end (drop l.member-index l.members) → AreRising 0 l.members
