use Rattle.std.proofs.Common.{◌≡◌, ◌+◌, take}
use Rattle.std.specs.List.{sum_by}
use Rattle.sed_faults.specs.Faults.{least, said_from}
use Rattle.sed_outline.specs.Rounds.{capped}
use Rattle.sed_first_fault.specs.Counts.{count_as, passing}
use Rattle.sed_first_fault.proofs.passed.passed_fault.Given as goal

-- the least of the members so far, and what they come to
abbrev pub invariant-loop-number : goal.invariant-loop-number
invariant-loop-number l = record {
  sum : l.before ≡ capped (l.start + sum_by (count_as l.counted l.measured l.kit) (take l.number l.members));
  so_far : l.first
      ≡ least (said_from (passing l.most (count_as l.counted l.measured l.kit) l.start l.members) 0 (take l.number l.members));
}
