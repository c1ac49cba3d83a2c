use Rattle.std.proofs.Common.{◌≡◌, map, if◌then◌else◌}
use Rattle.std.specs.List.{range_with_len, sum_by}
use Rattle.sed_classes.specs.Bases.{lineage}
use Rattle.sed_classes.specs.Objects.{holds_itself, own_size}
use Rattle.sed_outline.specs.Rounds.{capped, item}
use Rattle.sed_outline.proofs.sizes.next_sizes.Given as goal

-- the classes so far
abbrev pub invariant-loop-class : goal.invariant-loop-class
invariant-loop-class l =
    l.all.items
    ≡ map
    (λ class. if holds_itself l.based class then 0 else capped (sum_by (own_size l.based (item 0 l.sizes))
    (lineage l.based class)))
    (range_with_len 0 l.class)
