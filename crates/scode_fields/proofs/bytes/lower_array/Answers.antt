use Rattle.scode_fields.proofs.Lowering.{array_lowers, array_stays}
use Rattle.scode_fields.proofs.bytes.lower_array.Goals as goal

pub returns-then-form-eq1 : goal.returns-then-form-eq1
returns-then-form-eq1 c =
    array_lowers c.args.row.now.items c.lower_run.new.row.items c.args.form c.args.n c.args.offset c.requires
    c.if-form-eq1.true
    c.lower_run.ensures

pub returns-else-form-eq1 : goal.returns-else-form-eq1
returns-else-form-eq1 c = array_stays c.args.row.now.items c.args.form c.args.n c.args.offset c.if-form-eq1.false
