use Rattle.std.proofs.Common.{sym}
use Rattle.row_tree.proofs.TreePlaces.{found_place, not_found}
use Rattle.row_tree.proofs.order.place_of.Goals as goal

pub returns-then-row-id : goal.returns-then-row-id
returns-then-row-id c = sym (found_place c.args.rows.now c.args.id _ c.row_at-row.result c.requires c.row_at-row.ensures c.if-row-id.true)

pub returns : goal.returns
returns c =
    not_found c.args.rows.now c.args.id c.loop-low.low c.loop-low.high c.loop-low-test.false c.loop-low.invariant.below c.loop-low.invariant.above
