use Rattle.std.proofs.Common.{◌-◌, sym}
use Rattle.std.proofs.lemmas.Result.{err_from_is_err_and}
use Rattle.sed_parser.proofs.Repeats.{one_more, refused, last, too_many}
use Rattle.sed_parser.proofs.parser.classes.all.Goals as goal

pub returns-then-not-goes : goal.returns-then-not-goes
returns-then-not-goes g c =
    rw c.new.ensures (last g.T.Item.goes_at g.T.Item.item_at c.loop.items.items (c.left-most.result - c.loop.counter)
    c.loop.parser _ (sym c.if-not-goes.ensures) c.loop.invariant)

pub returns-in_err-next : goal.returns-in_err-next
returns-in_err-next g c =
    let p = err_from_is_err_and c.from_residual.result c.from_residual.ensures.1 in
    rw (p.1, p.2) (refused g.T.Item.goes_at g.T.Item.item_at c.in_err-next.field-0.0 c.read.new.parser
    c.loop.items.items c.left-most.result c.loop.counter c.loop.parser _ c.loop-test.true
    (sym c.if-not-goes.ensures) c.in_err-next.ensures c.loop.invariant)

pub loop-preserved : goal.loop-preserved
loop-preserved g c =
    rw c.in_ok-push.ensures.items
    (one_more g.T.Item.goes_at g.T.Item.item_at c.loop.items.items c.left-most.result c.loop.counter c.loop.parser
    c.in_ok-next.next c.read.new.parser _ c.loop-test.true (sym c.if-not-goes.ensures) c.in_ok-next.ensures
    c.loop.invariant)

pub returns-then-not-goes-2 : goal.returns-then-not-goes-2
returns-then-not-goes-2 g c =
    rw c.new-then-not-goes-2.ensures
    (last g.T.Item.goes_at g.T.Item.item_at c.loop.items.items (c.left-most.result - c.loop.counter) c.loop.parser _
    (sym c.if-not-goes-2.ensures) c.loop.invariant)

pub returns : goal.returns
returns g c =
    too_many g.T.Item.goes_at g.T.Item.item_at c.loop.items.items c.left-most.result c.loop.counter c.loop.parser _
    c.loop-test.false (sym c.if-not-goes-2.ensures) c.loop.invariant
