use Rattle.std.proofs.Common.{ℕ, ap, ◌∙◌}
use Rattle.scode_fields.specs.Rows.{row_at}
use Rattle.scode_fields.proofs.Lowering.{object_lowers}
use Rattle.scode_fields.proofs.bytes.lower_field.Goals as goal

pub returns-in-8 : goal.returns-in-8
returns-in-8 c = λ depth deep.
    object_lowers c.args.image.now c.args.rows.now c.args.places.now c.args.row.now.items c.lower_each.new.row.items
    c.row_at.result.now
    c.args.field.now c.from-offset.result depth c.in-8.is (c.requires.row c.in-8.is) c.requires.laid deep
    (c.row_at.ensures ∙ ap (λ (n : ℕ). row_at c.args.rows.now c.args.places.now n) c.from-in-8.ensures)
    c.from-offset.ensures c.lower_each.ensures
