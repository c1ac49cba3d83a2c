use Rattle.row_tree.specs.Visits.{IsMet}
use Rattle.row_tree.proofs.reach.visit.Given as goal

abbrev pub invariant-loop-next : goal.invariant-loop-next
invariant-loop-next l = IsMet l.lists l.next (l.met.items, l.order.items)
