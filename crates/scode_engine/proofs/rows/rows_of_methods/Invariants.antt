use Rattle.scode_engine.proofs.Decoded.{RowsTo}
use Rattle.scode_engine.proofs.rows.rows_of_methods.Given as goal

abbrev pub invariant-loop-method : goal.invariant-loop-method
invariant-loop-method l = RowsTo l.methods l.rows.items l.method-index
