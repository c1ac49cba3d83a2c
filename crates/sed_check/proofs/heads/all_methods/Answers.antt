use Rattle.std.proofs.Common.{[], take, get_or}
use Rattle.std.specs.List.{enumerate_from, flat_map}
use Rattle.std.specs.Vec.Iter.{into_iter_items}
use Rattle.sed_program.specs.Methods.{methods_in, methods_of}
use Rattle.sed_program.proofs.FieldRows.{within}
use Rattle.sed_check.proofs.Made.{classes_all, classes_more, grows_more, grows_same}
use Rattle.sed_check.proofs.heads.all_methods.Goals as goal

pub loop-number-preserved : goal.loop-number-preserved
loop-number-preserved c =
    let units = c.args.ordered.now in
    let order = c.order-order.result.now in
    let n = c.loop-number.number in
    let class = get_or order n 0 in
    grows_same
    units
    _
    _
    []
    (into_iter_items c.args.bodies.now)
    c.push_methods.new.into.items
    (into_iter_items c.push_methods.new.bodies)
    (classes_more units n order class c.loop-number-test.true (within order n 0 class c.loop-number-test.true))
    (grows_more
    units
    (flat_map (methods_in units) (enumerate_from 0 (take n order)))
    (methods_in units (n, class))
    []
    (into_iter_items c.args.bodies.now)
    c.loop-number.all.items
    (into_iter_items c.loop-number.bodies)
    c.push_methods.new.into.items
    (into_iter_items c.push_methods.new.bodies)
    c.loop-number.invariant
    c.in_ok-push_methods.ensures)

pub returns : goal.returns
returns c =
    let units = c.args.ordered.now in
    grows_same
    units
    (flat_map (methods_in units) (enumerate_from 0 (take c.loop-number.number c.order-order.result.now)))
    (methods_of units)
    []
    (into_iter_items c.args.bodies.now)
    c.loop-number.all.items
    (into_iter_items c.loop-number.bodies)
    (classes_all
    units
    c.loop-number.number
    c.order-order.result.now
    c.order-order.ensures.order
    c.loop-number-test.false)
    c.loop-number.invariant
