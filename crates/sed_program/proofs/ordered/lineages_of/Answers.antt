use Rattle.std.proofs.Common.{◌∙◌}
use Rattle.sed_classes.specs.Bases.{lineage}
use Rattle.sed_program.proofs.Rows.{row_step}
use Rattle.sed_program.proofs.ordered.lineages_of.Goals as goal

pub loop-class-preserved : goal.loop-class-preserved
loop-class-preserved c =
    row_step
    (lineage c.args.based.now)
    c.loop-class.class
    c.loop-class.all.items
    c.push.new.self.items
    c.new.result
    c.in_ok-push.ensures.items
    c.loop-class.invariant
    (c.new.ensures ∙ c.in_ok-lineage.ensures)
