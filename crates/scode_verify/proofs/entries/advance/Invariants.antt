use Rattle.std.proofs.Common.{◌-◌, length}
use Rattle.scode_verify.specs.Words.{Passed}
use Rattle.scode_verify.proofs.entries.advance.Given as goal

abbrev pub invariant-loop-passed : goal.invariant-loop-passed
invariant-loop-passed l = Passed l.entries l.passed l.place

abbrev pub decreases-loop-passed : goal.decreases-loop-passed
decreases-loop-passed l = length l.entries - l.passed
