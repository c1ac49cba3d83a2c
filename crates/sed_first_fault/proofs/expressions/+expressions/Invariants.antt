use Rattle.std.proofs.Common.{◌≡◌, ◌+◌, ◌*◌, drop}
use Rattle.sed_units.specs.Tree.{row, tree_size}
use Rattle.sed_first_fault.specs.Nodes.{noted_in}
use Rattle.sed_first_fault.proofs.expressions.+expressions.Given as goal

abbrev pub decreases-note_expression : goal.decreases-note_expression
decreases-note_expression l = 3 * tree_size l.e.now

abbrev pub decreases-two : goal.decreases-two
decreases-two l = 3 * (tree_size l.x.now + tree_size l.y.now) + 1

abbrev pub decreases-three : goal.decreases-three
decreases-three l = 3 * (tree_size l.t.now + tree_size l.x.now + tree_size l.y.now) + 2

abbrev pub decreases-chain : goal.decreases-chain
decreases-chain l = 3 * (tree_size l.x.now + tree_size (row l.links.now)) + 1

abbrev pub decreases-expressions : goal.decreases-expressions
decreases-expressions l = 3 * tree_size (row l.all.now)

abbrev pub decreases-steps : goal.decreases-steps
decreases-steps l = 3 * tree_size (row l.all.now)

abbrev pub decreases-step : goal.decreases-step
decreases-step l = 3 * tree_size l.link.now

abbrev pub invariant-expressions-loop-e : goal.invariant-expressions-loop-e
invariant-expressions-loop-e l = noted_in l.notes (row (drop l.e-index l.all)) ≡ noted_in l.fn.notes (row l.all)

abbrev pub invariant-steps-loop-link : goal.invariant-steps-loop-link
invariant-steps-loop-link l = noted_in l.notes (row (drop l.link-index l.all)) ≡ noted_in l.fn.notes (row l.all)
