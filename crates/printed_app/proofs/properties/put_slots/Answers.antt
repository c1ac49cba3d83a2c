use Rattle.std.proofs.Common.{rules}
use Rattle.std.specs.List.{enumerate_from}
use Rattle.comp_tree.specs.Held.{components_of}
use Rattle.printed_app.proofs.Sequence.{all_put, one_fails, one_more, placed, placed_all}
use Rattle.printed_app.specs.Application.{slot_line}
use Rattle.printed_app.proofs.properties.put_slots.Goals as goal

pub loop-number-preserved : goal.loop-number-preserved
loop-number-preserved g c =
    one_more (slot_line (g.E.Engine.meaning c.args.tree.now.engine)
    (components_of g.E.Engine c.args.tree.now).by_id c.args.id.0) (enumerate_from 0 c.args.slots.now)
    c.loop-number.number _
    (placed c.args.slots.now c.loop-number.number c.index-slots-number.result
    c.loop-number-test.true c.index-slots-number.is)
    c.loop-number.invariant c.in_ok-put_slot.ensures

pub returns-in_err-put_slot : goal.returns-in_err-put_slot
returns-in_err-put_slot g c =
    one_fails (slot_line (g.E.Engine.meaning c.args.tree.now.engine)
    (components_of g.E.Engine c.args.tree.now).by_id c.args.id.0) (enumerate_from 0 c.args.slots.now)
    c.loop-number.number _
    (placed c.args.slots.now c.loop-number.number c.index-slots-number.result
    c.loop-number-test.true c.index-slots-number.is)
    c.loop-number.invariant c.in_err-put_slot.ensures c.from_residual.ensures.0

pub returns : goal.returns
returns g c =
    all_put (slot_line (g.E.Engine.meaning c.args.tree.now.engine)
    (components_of g.E.Engine c.args.tree.now).by_id c.args.id.0) (enumerate_from 0 c.args.slots.now)
    c.loop-number.number (placed_all c.args.slots.now c.loop-number.number (search rules)) c.loop-number.invariant
