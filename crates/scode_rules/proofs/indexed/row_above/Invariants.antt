use Rattle.std.proofs.Common.{◌≡◌, length}
use Rattle.scode_rules.specs.Words.{IsAbove}
use Rattle.scode_rules.proofs.indexed.row_above.Given as goal

-- what is told so far is so
abbrev pub invariant-loop-above : goal.invariant-loop-above
invariant-loop-above l = record {
  long : length l.row.items ≡ l.above;
  told : IsAbove l.image l.class l.row.items;
}
