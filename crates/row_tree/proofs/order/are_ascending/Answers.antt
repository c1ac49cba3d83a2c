use Rattle.std.proofs.Common.{arith, refl}
use Rattle.row_tree.proofs.TreePlaces.{ascend_all, ascend_more, ascend_none}
use Rattle.row_tree.proofs.order.are_ascending.Goals as goal

pub loop-place-init : goal.loop-place-init
loop-place-init c = ascend_none c.args.rows.now

pub loop-place-preserved : goal.loop-place-preserved
loop-place-preserved c =
    ascend_more c.args.rows.now c.loop-place.place c.row_at-last.result c.row_at-next.result (omega arith) c.row_at-last.ensures c.row_at-next.ensures (omega arith) c.loop-place.invariant

pub returns : goal.returns
returns c = (λ is. ascend_all c.args.rows.now c.loop-place.place (omega arith) c.loop-place.invariant, λ ascend. refl)
