use Rattle.std.proofs.Common.{length}
use Rattle.sed_classes.specs.Ends.{item_at}
use Rattle.sed_classes.proofs.Counts.{counts_more}
use Rattle.sed_classes.proofs.base_counts.count.Goals as goal

pub returns : goal.returns
returns c = λ are.
    counts_more (item_at c.args.bases.now) (length c.args.bases.now) c.args.counts.now c.args.class
    c.count_at-found.result c.if-class-counts.false c.count_at-found.ensures.within (c.count_at-found.ensures.ends are) are
