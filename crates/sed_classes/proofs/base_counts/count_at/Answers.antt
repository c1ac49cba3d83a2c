use Rattle.std.proofs.Common.{length, sym, ◌∙◌}
use Rattle.sed_classes.specs.Ends.{item_at}
use Rattle.sed_classes.proofs.Counts.{count_more}
use Rattle.sed_classes.proofs.base_counts.count_at.Goals as goal

pub returns-in-Some-clause-ends : goal.returns-in-Some-clause-ends
returns-in-Some-clause-ends c =
    count_more (item_at c.args.bases.now) (length c.args.bases.now) c.args.counts.now c.in-Some.base
    (item_at c.args.bases.now c.args.class) c.item_at-in-Some.result c.one_more.result
    (sym c.item_at.ensures ∙ c.in-Some.is) c.item_at-in-Some.ensures c.one_more.ensures.more
