use Rattle.std.proofs.Common.{◌+◌, sym, subst}
use Rattle.kit_manifest.proofs.Kits.{Linked, Linked-more, Linked-whole}
use Rattle.kit_manifest.proofs.order.link_kits.Goals as goal

pub loop-place-preserved : goal.loop-place-preserved
loop-place-preserved c =
    subst (λ links. Linked c.args.list.now links (c.loop-place.place + 1)) (sym c.in_ok-push.ensures.items)
    (Linked-more c.args.list.now c.loop-place.links.items c.in_ok-needs_of.field-0 c.loop-place.place c.loop-place.invariant
    (λ j. (c.in_ok-needs_of.ensures j).0) (λ j. (c.in_ok-needs_of.ensures j).1))

pub returns : goal.returns
returns c = Linked-whole c.args.list.now c.loop-place.links.items c.loop-place.place c.loop-place.invariant c.loop-place-test.false c.loop-place.auto.place-end
