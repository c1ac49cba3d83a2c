use Rattle.std.proofs.Common.{◌≡◌, length}
use Rattle.row_tree.proofs.Chaining.{Walked}
use Rattle.row_tree.proofs.chain.chain.Given as goal

-- so many places were passed, and what stands behind them goes on
abbrev pub invariant-loop : goal.invariant-loop
invariant-loop l = record {
  walked : Walked l.rows l.up l.fn.first l.places.items l.at;
  size : length l.places.items ≡ l.counter;
}
