use Rattle.std.proofs.Common.{◌≡◌, map}
use Rattle.std.specs.List.{range_with_len}
use Rattle.sed_classes.specs.Objects.{own_size}
use Rattle.sed_outline.specs.Rounds.{capped, item}
use Rattle.sed_outline.proofs.sizes.own_sizes.Given as goal

-- the classes so far
abbrev pub invariant-loop-class : goal.invariant-loop-class
invariant-loop-class l =
    l.all.items ≡ map (λ class. capped (own_size l.classes (item 0 l.sizes) class)) (range_with_len 0 l.class)
