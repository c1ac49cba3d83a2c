use Rattle.std.proofs.Common.{ap, ◌∙◌}
use Rattle.sed_classes.specs.Members.{members_of}
use Rattle.sed_program.specs.Fields.{field_of}
use Rattle.sed_program.specs.Parts.{is_of}
use Rattle.sed_program.proofs.FieldRows.{fields_step}
use Rattle.sed_program.proofs.fields.push_fields.Goals as goal

pub loop-member-preserved : goal.loop-member-preserved
loop-member-preserved c =
    fields_step
    (field_of c.args.ordered.now c.args.number c.args.class)
    (is_of c.args.part)
    c.loop-member.member-index
    c.members-member-items.result.now
    (members_of c.args.ordered.now c.args.class)
    c.member-item.result
    c.args.into.now.items
    c.loop-member.into.items
    c.push_field.new.into.items
    (c.members-member-items.ensures ∙ ap (λ u. members_of u c.args.class) (c.classes.ensures ∙ c.based-based.ensures))
    c.loop-member-test.true
    c.member-item.is
    c.in_ok-push_field.ensures
    c.loop-member.invariant
