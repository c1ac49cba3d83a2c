use Rattle.row_tree.proofs.TreePlaces.{AscendTo}
use Rattle.row_tree.proofs.order.are_ascending.Given as goal

-- the rows before this place ascend
abbrev pub invariant-loop-place : goal.invariant-loop-place
invariant-loop-place l = AscendTo l.place l.rows
