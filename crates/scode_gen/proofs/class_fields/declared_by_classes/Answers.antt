use Rattle.std.proofs.Common.{List, ◌∙◌, ap}
use Rattle.sed_typed.specs.declared.program.Field.{Field}
use Rattle.sed_typed.specs.Classes.{declared_fields}
use Rattle.scode_gen.proofs.ClassRows.{one_more}
use Rattle.scode_gen.proofs.class_fields.declared_by_classes.Goals as goal

pub loop-class-preserved : goal.loop-class-preserved
loop-class-preserved c =
    let program = c.args.program.now in
    let class = c.loop-class.class in
    one_more (declared_fields program.fields) class c.loop-class.own.items c.push.new.self.items c.in_ok-declared_by.field-0
    c.loop-class.invariant
    (c.in_ok-declared_by.ensures ∙ ap (λ (all : List Field). declared_fields all class) c.as_slice.ensures)
    c.in_ok-push.ensures.items
