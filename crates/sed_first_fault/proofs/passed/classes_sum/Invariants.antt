use Rattle.std.proofs.Common.{◌≡◌, take}
use Rattle.std.specs.List.{sum_by}
use Rattle.sed_classes.specs.LimitRules.{own_sum}
use Rattle.sed_outline.specs.Rounds.{capped}
use Rattle.sed_first_fault.specs.Counts.{count_as}
use Rattle.sed_first_fault.proofs.passed.classes_sum.Given as goal

-- the sum of the classes so far
abbrev pub invariant-loop-number : goal.invariant-loop-number
invariant-loop-number l =
    l.sum ≡ capped (sum_by (own_sum (count_as l.counted l.measured) l.measured) (take l.number l.all))
