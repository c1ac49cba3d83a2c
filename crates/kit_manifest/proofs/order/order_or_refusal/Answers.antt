use Rattle.std.proofs.Common.{length, sym, subst}
use Rattle.kit_manifest.specs.Links.{StaysBelow}
use Rattle.kit_manifest.specs.Order.{IsOrder, DependsOn}
use Rattle.kit_manifest.proofs.Refusals.{links_stay, no_cycle_in, order_in, cycle_in}
use Rattle.kit_manifest.proofs.order.order_or_refusal.Goals as goal

pub order_of-requires : goal.order_of-requires
order_of-requires c = subst (λ links. StaysBelow (length links) links) (sym c.deref.ensures.value) (links_stay c.args.list.now c.in_ok-links.links.items c.in_ok-links.ensures)

pub returns-in-Cycle : goal.returns-in-Cycle
returns-in-Cycle c = record {
  known = c.in_default.ensures;
  first = cycle_in c.args.list.now c.deref.result.now c.in_ok-links.links.items c.in_ok-at.field-0 c.in-Cycle.at c.in_ok-links.ensures c.deref.ensures.value c.in_ok-at.ensures c.in-Cycle.is;
}

pub returns-in-Some-first_repeated : goal.returns-in-Some-first_repeated
returns-in-Some-first_repeated c =
    let order : IsOrder (length c.args.list.now) (DependsOn c.args.list.now) c.in-Order.order.items =
    order_in c.args.list.now c.deref.result.now c.in_ok-links.links.items c.in_ok-at.field-0 c.in-Order.order c.in_ok-links.ensures c.deref.ensures.value c.in_ok-at.ensures c.in-Order.is in
    record { known = c.in_default.ensures; no_cycle = no_cycle_in c.args.list.now c.in-Order.order.items order; first = c.in-Some-first_repeated.ensures }

pub returns : goal.returns
returns c =
    let order : IsOrder (length c.args.list.now) (DependsOn c.args.list.now) c.in-Order.order.items =
    order_in c.args.list.now c.deref.result.now c.in_ok-links.links.items c.in_ok-at.field-0 c.in-Order.order c.in_ok-links.ensures c.deref.ensures.value c.in_ok-at.ensures c.in-Order.is in
    record {
      order = order;
      orderly = record { known = c.in_default.ensures; no_cycle = no_cycle_in c.args.list.now c.in-Order.order.items order; different = c.in_default-first_repeated.ensures };
    }
