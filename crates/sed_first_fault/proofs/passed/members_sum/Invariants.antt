use Rattle.std.proofs.Common.{◌≡◌, take}
use Rattle.std.specs.List.{sum_by}
use Rattle.sed_outline.specs.Rounds.{capped}
use Rattle.sed_first_fault.specs.Counts.{count_as}
use Rattle.sed_first_fault.proofs.passed.members_sum.Given as goal

-- the sum of the members so far
abbrev pub invariant-loop-member : goal.invariant-loop-member
invariant-loop-member l = l.sum ≡ capped (sum_by (count_as l.counted l.measured l.kit) (take l.member-index l.members))
