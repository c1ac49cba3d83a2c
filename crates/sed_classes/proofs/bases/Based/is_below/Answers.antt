use Rattle.std.proofs.Common.{◌∙◌}
use Rattle.sed_classes.proofs.Counts.{is_below_from, is_below_itself}
use Rattle.sed_classes.proofs.bases.Based.is_below.Goals as goal

pub returns-then-class-above : goal.returns-then-class-above
returns-then-class-above c = is_below_itself c.args.self.now c.args.above c.args.class c.if-class-above.true

pub returns-else-class-above : goal.returns-else-class-above
returns-else-class-above c =
    c.leads_to.ensures ∙ is_below_from c.args.self.now c.args.above c.args.class c.if-class-above.false
