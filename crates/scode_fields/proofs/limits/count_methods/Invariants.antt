use Rattle.std.proofs.Common.{length}
use Rattle.scode_fields.proofs.Counting.{CountedTo}
use Rattle.scode_fields.proofs.limits.count_methods.Given as goal

-- the methods so far are counted
abbrev pub invariant-loop-number : goal.invariant-loop-number
invariant-loop-number l = CountedTo l.counts.items l.methods (length l.image.classes) l.number
