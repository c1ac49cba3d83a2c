use Rattle.std.proofs.Common.{ℕ, List, arith, get_or}
use Rattle.std.specs.List.{filter_map}
use Rattle.sed_typed.specs.declared.program.Field.{Field}
use Rattle.sed_program.specs.Fields.{field_of}
use Rattle.sed_program.specs.Parts.{own_of}
use Rattle.sed_program.proofs.FieldRows.{classes_step, within}
use Rattle.sed_program.proofs.fields.all_fields.Goals as goal

pub overflow_cast-number : goal.overflow_cast-number
overflow_cast-number c = omega (arith, c.loop-number-test.true, c.order-order.ensures.small)

pub loop-number-preserved : goal.loop-number-preserved
loop-number-preserved c =
    let order = c.order-order.result.now in
    let said : ℕ × ℕ → List Field =
    λ k. filter_map (field_of c.args.ordered.now k.0 k.1) (own_of c.args.part c.args.ordered.now k.1) in
    classes_step
    said
    c.loop-number.number
    order
    (get_or order c.loop-number.number 0)
    c.loop-number.all.items
    c.push_fields.new.into.items
    c.loop-number-test.true
    (within order c.loop-number.number 0 (get_or order c.loop-number.number 0) c.loop-number-test.true)
    c.in_ok-push_fields.ensures
    c.loop-number.invariant
