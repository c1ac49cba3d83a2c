use Rattle.row_tree.proofs.Chaining.{AreListsTo}
use Rattle.row_tree.proofs.lists.lists.Given as goal

abbrev pub invariant-loop-place : goal.invariant-loop-place
invariant-loop-place l = AreListsTo l.place l.rows l.lists.items
