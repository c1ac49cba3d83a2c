use Rattle.std.proofs.Common.{◌≡◌, take}
use Rattle.std.specs.List.{flat_map}
use Rattle.sed_outline.specs.Rounds.{inline_own}
use Rattle.sed_outline.proofs.holding.inline_in.Given as goal

-- those of the classes so far
abbrev pub invariant-loop-number : goal.invariant-loop-number
invariant-loop-number l = l.all.items ≡ flat_map (inline_own l.based) (take l.number l.lineage.items)
