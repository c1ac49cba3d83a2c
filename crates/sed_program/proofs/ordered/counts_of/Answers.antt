use Rattle.std.proofs.Common.{filter, length, ap, ◌∙◌}
use Rattle.sed_classes.specs.Members.{members_of}
use Rattle.sed_program.specs.Parts.{count_of, is_of}
use Rattle.sed_program.proofs.Rows.{row_step}
use Rattle.sed_program.proofs.ordered.counts_of.Goals as goal

pub loop-class-preserved : goal.loop-class-preserved
loop-class-preserved c =
    row_step
    (count_of c.args.part c.args.based.now)
    c.loop-class.class
    c.loop-class.all.items
    c.push.new.self.items
    c.count_of.result
    c.in_ok-push.ensures.items
    c.loop-class.invariant
    (c.count_of.ensures
    ∙ ap
    (λ ms. length (filter (is_of c.args.part) ms))
    (c.members.ensures ∙ ap (λ u. members_of u c.loop-class.class) c.classes-in-loop-class.ensures))
