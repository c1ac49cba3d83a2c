use Rattle.std.proofs.Common.{◌≡◌}
use Rattle.sed_classes.specs.Bases.{base_of, gone_on, lineage}
use Rattle.sed_classes.proofs.Climbs.{IsSeen}
use Rattle.sed_classes.proofs.bases.Based.any_lineage.Given as goal

-- going on from here comes to the whole lineage
abbrev pub invariant-climb : goal.invariant-climb
invariant-climb l = record {
  comes : gone_on (base_of l.self) l.left l.far.items l.next ≡ lineage l.self l.class;
  seen : IsSeen l.seen l.far.items;
}

abbrev pub decreases-climb : goal.decreases-climb
decreases-climb l = l.left
