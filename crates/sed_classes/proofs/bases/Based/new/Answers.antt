use Rattle.std.proofs.Common.{◌∙◌}
use Rattle.sed_classes.proofs.Counts.{counts_of_classes}
use Rattle.sed_classes.proofs.bases.Based.new.Goals as goal

pub invariant_of-result : goal.invariant_of-result
invariant_of-result c = (
  c.in_ok-bases.ensures,
  counts_of_classes c.args.classes c.deref.result.now c.in_ok-counts.counts.items
      (c.deref.ensures.value ∙ c.in_ok-bases.ensures) c.in_ok-counts.ensures,
)
