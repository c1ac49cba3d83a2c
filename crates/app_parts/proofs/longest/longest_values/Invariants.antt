use Rattle.app_parts.proofs.Lengths.{IsLongest}
use Rattle.app_parts.proofs.longest.longest_values.Given as goal

-- the classes before this one have no more than this
abbrev pub invariant-loop-class : goal.invariant-loop-class
invariant-loop-class l = IsLongest l.which l.classes l.class-index l.longest
