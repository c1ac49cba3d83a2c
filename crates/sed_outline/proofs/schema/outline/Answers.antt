use Rattle.std.proofs.Common.{◌≡◌, length, ap, ◌∙◌, arith}
use Rattle.sed_classes.specs.Schema.{class_order}
use Rattle.sed_outline.proofs.Orders.{order_short}
use Rattle.sed_outline.proofs.schema.outline.Goals as goal

pub class_infos-requires-clause-len : goal.class_infos-requires-clause-len
class_infos-requires-clause-len c =
    let long : length c.as_slice-2.result.now ≡ length (class_order c.args.units.now) =
    ap
    length
    (c.as_slice-2.ensures.value
    ∙ c.in_ok-order.ensures
    ∙ ap class_order (c.based.ensures ∙ c.in_ok-measured.ensures ∙ c.in_ok-based.ensures ∙ c.in_ok-all.ensures)) in
    omega (arith, long, order_short c.args.units.now, c.requires.count)
