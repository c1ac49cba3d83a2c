use Rattle.std.proofs.Common.{sym, subst, true}
use Rattle.std.proofs.Math.ListN.{set}
use Rattle.std.specs.Prelude.{length}
use Rattle.kit_manifest.specs.Links.{IsReady}
use Rattle.kit_manifest.specs.Order.{IsFirst}
use Rattle.kit_manifest.proofs.Orders.{Taken, Taken-none, Taken-more}
use Rattle.kit_manifest.proofs.links.order_of.Goals as goal

pub loop-next-init : goal.loop-next-init
loop-next-init c =
    subst (λ marks. Taken c.args.links.now marks c.new-order.result.items) (sym c.in_ok-taken.ensures)
    (subst (Taken c.args.links.now _) (sym c.new-order.ensures.items) (Taken-none c.args.links.now))

pub loop-next-preserved : goal.loop-next-preserved
loop-next-preserved c =
    subst (Taken c.args.links.now (set c.loop-next.taken.items c.in-Some.next true)) (sym c.in_ok-push.ensures.items)
    (Taken-more c.args.links.now c.loop-next.taken.items c.loop-next.order.items c.in-Some.next c.loop-next.invariant
    (subst (λ marks. IsFirst (length c.args.links.now) (IsReady c.args.links.now marks) c.in-Some.next) c.deref.ensures.value c.in-Some.ensures))
