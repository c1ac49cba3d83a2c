use Rattle.std.proofs.Common.{◌≡◌, take}
use Rattle.std.specs.List.{sum_by}
use Rattle.sed_outline.specs.Rounds.{capped, item}
use Rattle.sed_outline.proofs.sizes.lineage_size.Given as goal

-- the classes so far
abbrev pub invariant-loop-number : goal.invariant-loop-number
invariant-loop-number l = l.sum ≡ capped (sum_by (item 0 l.own) (take l.number l.lineage))
