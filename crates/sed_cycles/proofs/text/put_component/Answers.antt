use Rattle.std.proofs.Common.{Ok, Err}
use Rattle.printed_app.proofs.Sequence.{stops, text_is, then_put}
use Rattle.sed_cycles.specs.Alone as alone
use Rattle.sed_cycles.proofs.Printing.{same_lines}
use Rattle.sed_cycles.proofs.text.put_component.Goals as goal

pub returns-in_err-put_slot_lines : goal.returns-in_err-put_slot_lines
returns-in_err-put_slot_lines g c = λ o at of_class.
    let m = g.E.Engine.meaning c.args.engine.now in
    stops _ (text_is {r = Err c.in_err-put_slot_lines.field-0.0} (same_lines (alone.slot_line m o) m _ _ _ o.class
    c.slots_of-slots.ensures c.schema.ensures.same of_class) (c.in_err-put_slot_lines.ensures o at))
    c.from_residual.ensures.0

pub returns : goal.returns
returns g c = λ o at of_class.
    let m = g.E.Engine.meaning c.args.engine.now in
    then_put (text_is {r = Ok tt} (same_lines (alone.slot_line m o) m _ _ _ o.class
    c.slots_of-slots.ensures c.schema.ensures.same of_class) (c.in_ok-put_slot_lines.ensures o at))
    c.put_fault_line.ensures
