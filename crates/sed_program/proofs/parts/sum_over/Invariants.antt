use Rattle.std.proofs.Common.{◌≡◌, take}
use Rattle.std.specs.List.{sum_by}
use Rattle.sed_outline.specs.Rounds.{item}
use Rattle.sed_program.proofs.parts.sum_over.Given as goal

-- the classes so far
abbrev pub invariant-loop-number : goal.invariant-loop-number
invariant-loop-number l = l.sum ≡ sum_by (item 0 l.counts) (take l.number l.classes)
