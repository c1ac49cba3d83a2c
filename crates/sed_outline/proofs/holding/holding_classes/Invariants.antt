use Rattle.std.proofs.Common.{◌≡◌, map}
use Rattle.std.specs.List.{range_with_len}
use Rattle.sed_classes.specs.Objects.{holds_itself}
use Rattle.sed_outline.proofs.holding.holding_classes.Given as goal

-- the classes so far
abbrev pub invariant-loop-class : goal.invariant-loop-class
invariant-loop-class l = l.all.items ≡ map (holds_itself l.based) (range_with_len 0 l.class)
