use Rattle.std.proofs.Common.{◌∙◌}
use Rattle.sed_program.specs.Tables.{declared_in}
use Rattle.sed_program.proofs.Rows.{row_step}
use Rattle.sed_program.proofs.tables.members_of.Goals as goal

pub loop-class-preserved : goal.loop-class-preserved
loop-class-preserved c =
    row_step
    (declared_in c.args.ordered.now)
    c.loop-class.class
    c.loop-class.all.items
    c.push.new.self.items
    c.new.result
    c.in_ok-push.ensures.items
    c.loop-class.invariant
    (c.new.ensures ∙ c.in_ok-declared.ensures)
