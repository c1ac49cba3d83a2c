use Rattle.std.proofs.Common.{List, subst, arith}
use Rattle.std.proofs.lemmas.List.{take_all}
use Rattle.scode_image.specs.declared.image.ImageField.{ImageField}
use Rattle.scode_fields.specs.Rows.{Lowers, fields_test}
use Rattle.scode_fields.proofs.Lowering.{fields_more}
use Rattle.scode_fields.proofs.bytes.lower_fields.Goals as goal

pub loop-field-preserved : goal.loop-field-preserved
loop-field-preserved c = λ depth deep.
    fields_more c.args.image.now c.args.fields.now c.args.row.now.items c.loop-field.row.items
    c.lower_field.new.row.items depth
    c.loop-field.field-index _ c.loop-field-test.true (c.loop-field.invariant depth deep)
    (c.lower_field.ensures depth deep)

pub returns : goal.returns
returns c = λ depth deep.
    subst (λ (fs : List ImageField). Lowers c.args.row.now.items c.loop-field.row.items
    (fields_test depth c.args.image.now fs))
    (take_all c.loop-field.field-index c.args.fields.now (omega arith)) (c.loop-field.invariant depth deep)
