use Rattle.scode_fields.specs.Rows.{fields_test}
use Rattle.scode_fields.proofs.Lowering.{tells_all}
use Rattle.scode_fields.proofs.bytes.row_of.Goals as goal

pub returns-clause-tells : goal.returns-clause-tells
returns-clause-tells c = λ depth deep.
    tells_all c.args.size c.in_ok-row.row.items c.lower_fields.new.row.items
    (fields_test depth c.args.image.now c.args.fields.now)
    c.in_ok-row.ensures (c.lower_fields.ensures depth deep)
