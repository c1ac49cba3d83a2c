use Rattle.sed_rules.specs.Settled.{AreSettled}
use Rattle.sed_rules.proofs.settling.settled_defines.Given as goal

-- what is settled so far
abbrev pub invariant-turns : goal.invariant-turns
invariant-turns l = AreSettled l.based l.row.items
