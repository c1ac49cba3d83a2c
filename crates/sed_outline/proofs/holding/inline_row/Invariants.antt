use Rattle.std.proofs.Common.{◌≡◌, map}
use Rattle.std.specs.List.{range_with_len}
use Rattle.sed_outline.specs.Rounds.{inline_in}
use Rattle.sed_outline.proofs.holding.inline_row.Given as goal

-- those of the classes so far
abbrev pub invariant-loop-class : goal.invariant-loop-class
invariant-loop-class l = l.all.items ≡ map (inline_in l.based) (range_with_len 0 l.class)
