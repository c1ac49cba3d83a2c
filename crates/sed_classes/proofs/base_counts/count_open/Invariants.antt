use Rattle.std.proofs.Common.{length, vec_len}
use Rattle.sed_classes.specs.Ends.{AreCounts, item_at}
use Rattle.sed_classes.proofs.base_counts.count_open.Given as goal

-- the numbers found before hold
abbrev pub invariant-open : goal.invariant-open
invariant-open l =
    AreCounts (item_at l.bases) (length l.bases) l.initial.counts →
    AreCounts (item_at l.bases) (length l.bases) l.counts

abbrev pub decreases-open : goal.decreases-open
decreases-open l = vec_len l.open
