use Rattle.std.proofs.Common.{length}
use Rattle.sed_classes.specs.Ends.{AreCounts, item_at}
use Rattle.sed_classes.proofs.base_counts.counts_of.Given as goal

-- what is numbered so far
abbrev pub invariant-classes : goal.invariant-classes
invariant-classes l = AreCounts (item_at l.bases) (length l.bases) l.counts.items
