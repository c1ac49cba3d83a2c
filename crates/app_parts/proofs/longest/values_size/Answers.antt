use Rattle.std.proofs.Common.{◌+◌, sym, subst, arith}
use Rattle.app_parts.proofs.Lengths.{CountsSizes, counts-first, counts-last, counts-next}
use Rattle.app_parts.proofs.longest.values_size.Goals as goal

pub loop-slot-init : goal.loop-slot-init
loop-slot-init c = (counts-first c.args.which c.args.slots.now, omega arith)

pub loop-slot-preserved : goal.loop-slot-preserved
loop-slot-preserved c =
    let next =
    counts-next c.args.which c.args.slots.now c.loop-slot.slot-index c.loop-slot.size c.told_size.result c.slot-item.result c.loop-slot-test.true
    c.slot-item.is c.told_size.ensures.same c.loop-slot.invariant.0 in
    let is = c.min-size.ensures in (
      subst (CountsSizes c.args.which c.args.slots.now (c.loop-slot.slot-index + 1)) (sym is) next,
      omega (arith, is),
    )

pub returns : goal.returns
returns c =
    counts-last c.args.which c.args.slots.now c.loop-slot.slot-index c.loop-slot.size c.loop-slot.invariant.1 c.loop-slot-test.false c.loop-slot.invariant.0
