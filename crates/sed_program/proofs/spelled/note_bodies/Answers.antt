use Rattle.std.proofs.Common.{length, ap, ◌∙◌, arith}
use Rattle.std.specs.List.{flat_map}
use Rattle.sed_faults.specs.Faults.{least}
use Rattle.sed_classes.specs.Bodies.{texts_of}
use Rattle.sed_classes.specs.Declarations.{all_classes}
use Rattle.sed_classes.specs.Members.{members_of}
use Rattle.sed_first_fault.specs.Nodes.{spelled_faults}
use Rattle.sed_first_fault.specs.Texts.{with_literals}
use Rattle.sed_program.proofs.Rows.{row_step}
use Rattle.sed_program.proofs.Spellings.{class_step}
use Rattle.sed_program.proofs.spelled.note_bodies.Goals as goal

pub loop-class-preserved : goal.loop-class-preserved
loop-class-preserved c =
    let units = c.args.based.now in
    let class = c.loop-class.class in
    let members : _ = c.members.ensures ∙ ap (λ u. members_of u class) c.classes-in-loop-class.ensures in
    record {
      texts = class_step
          units
          class
          c.loop-class.notes.texts
          c.note_class.new.notes.texts
          (omega (
            arith,
            c.loop-class-test.true,
            c.len-class-end.ensures,
            ap (λ u. length
                (all_classes u)) c.classes.ensures,
          ))
          (c.in_ok-fault.ensures.texts ∙ ap (λ ms. with_literals c.loop-class.notes.texts
          (flat_map texts_of ms)) members)
          c.loop-class.invariant.texts;
      faults = row_step
          (λ k. least (flat_map spelled_faults (members_of units k)))
          class
          c.loop-class.faults.items
          c.push.new.self.items
          c.in_ok-fault.fault
          c.in_ok-push.ensures.items
          c.loop-class.invariant.faults
          (c.in_ok-fault.ensures.fault ∙ ap (λ ms. least (flat_map spelled_faults ms)) members);
    }
