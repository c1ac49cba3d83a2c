use Rattle.std.proofs.Common.{◌-◌}
use Rattle.sed_rules.proofs.apart.number_at.Given as goal

abbrev pub decreases-halves : goal.decreases-halves
decreases-halves l = l.high - l.low
