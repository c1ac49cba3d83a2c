use Rattle.std.proofs.Common.{◌∙◌, ℕ, List, sym, ap, arith}
use Rattle.std.specs.Prelude.{slice_get}
use Rattle.row_tree.proofs.Meeting.{order_few, visit_more}
use Rattle.row_tree.proofs.reach.visit.Goals as goal

pub loop-next-preserved : goal.loop-next-preserved
loop-next-preserved c =
    visit_more c.args.lists.now c.loop-next.next (c.loop-next.met.items, c.loop-next.order.items) (c.meet_each.new.met.items, c.meet_each.new.order.items) c.in-Some.place c.list_of.result.now
    c.requires.stay c.loop-next.invariant (sym (ap (λ (xs : List ℕ). slice_get xs c.loop-next.next) c.deref.ensures.value) ∙ sym c.place_at.ensures ∙ c.in-Some.is)
    c.list_of.ensures c.in_ok-meet_each.ensures

pub returns : goal.returns
returns c =
    let few = order_few c.args.lists.now c.loop-next.next (c.loop-next.met.items, c.loop-next.order.items) c.requires.stay c.loop-next.invariant in
    record { done = c.loop-next.next; met = c.loop-next.invariant; over = omega (arith, few, c.loop-next-test.false) }
