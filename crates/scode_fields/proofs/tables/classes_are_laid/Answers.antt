use Rattle.std.proofs.Common.{List, ap, sym, ◌∙◌}
use Rattle.scode_image.specs.declared.image.ImageClass.{ImageClass}
use Rattle.scode_fields.specs.Stages as stages
use Rattle.scode_fields.proofs.Loops.{all_from, all_fails}
use Rattle.scode_fields.proofs.tables.classes_are_laid.Goals as goal

pub returns-then-not-branch : goal.returns-then-not-branch
returns-then-not-branch c =
    sym (all_fails (stages.class_is_laid c.args.image.now) c.loop-class.class c.as_slice-classes.result.now
    c.index-classes-class.result c.loop-class-test.true c.index-classes-class.is
    (sym c.in_ok-class_is_laid.ensures ∙ c.if-not-branch.true))
    ∙ c.loop-class.invariant
    ∙ ap (λ (xs : List ImageClass). all_from (stages.class_is_laid c.args.image.now) 0 xs) c.as_slice-classes.ensures
