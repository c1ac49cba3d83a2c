use Rattle.scode_fields.proofs.Lowering.{primitive_lowers}
use Rattle.scode_fields.proofs.bytes.lower_primitive.Goals as goal

pub returns-then-form-eq1 : goal.returns-then-form-eq1
returns-then-form-eq1 c =
    primitive_lowers c.args.row.now.items c.lower.new.row.items c.args.form c.args.offset c.requires
    c.if-form-eq1.true c.lower.ensures
