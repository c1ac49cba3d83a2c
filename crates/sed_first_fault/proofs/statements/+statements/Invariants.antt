use Rattle.std.proofs.Common.{◌≡◌, ◌+◌, ◌*◌, drop}
use Rattle.sed_units.specs.Tree.{row, tree_size}
use Rattle.sed_first_fault.specs.Nodes.{noted_in}
use Rattle.sed_first_fault.proofs.statements.+statements.Given as goal

abbrev pub decreases-statement : goal.decreases-statement
decreases-statement l = 3 * tree_size l.s.now

abbrev pub decreases-head_and_body : goal.decreases-head_and_body
decreases-head_and_body l = 3 * tree_size l.x.now + 1

abbrev pub decreases-choice : goal.decreases-choice
decreases-choice l = 3 * (tree_size l.x.now + tree_size l.y.now) + 2

abbrev pub decreases-body_and_test : goal.decreases-body_and_test
decreases-body_and_test l = 3 * tree_size l.x.now + 1

abbrev pub decreases-for_loop : goal.decreases-for_loop
decreases-for_loop l = 3 * tree_size l.x.now + 1

abbrev pub decreases-switch : goal.decreases-switch
decreases-switch l = 3 * tree_size (row l.all.now) + 1

abbrev pub decreases-cases : goal.decreases-cases
decreases-cases l = 3 * tree_size (row l.all.now)

abbrev pub decreases-case : goal.decreases-case
decreases-case l = 3 * tree_size l.k.now

abbrev pub decreases-statements : goal.decreases-statements
decreases-statements l = 3 * tree_size (row l.all.now)

abbrev pub invariant-cases-loop-k : goal.invariant-cases-loop-k
invariant-cases-loop-k l = noted_in l.notes (row (drop l.k-index l.all)) ≡ noted_in l.fn.notes (row l.all)

abbrev pub invariant-statements-loop-s : goal.invariant-statements-loop-s
invariant-statements-loop-s l = noted_in l.notes (row (drop l.s-index l.all)) ≡ noted_in l.fn.notes (row l.all)
