use Rattle.std.proofs.Common.{length}
use Rattle.sed_classes.specs.Ends.{item_at}
use Rattle.sed_classes.proofs.Counts.{counts_none}
use Rattle.sed_classes.proofs.base_counts.counts_of.Goals as goal

pub classes-init : goal.classes-init
classes-init c = counts_none (item_at c.args.bases.now) (length c.args.bases.now) _ c.in_ok-counts.ensures
