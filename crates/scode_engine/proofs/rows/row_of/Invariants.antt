use Rattle.scode_engine.proofs.Decoded.{RowTo}
use Rattle.scode_engine.proofs.rows.row_of.Given as goal

abbrev pub invariant-loop-at : goal.invariant-loop-at
invariant-loop-at l = RowTo l.code l.row.items l.at
