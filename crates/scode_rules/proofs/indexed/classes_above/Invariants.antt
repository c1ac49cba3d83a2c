use Rattle.std.proofs.Common.{◌≡◌, length}
use Rattle.scode_rules.specs.Words.{AreAbove}
use Rattle.scode_rules.proofs.indexed.classes_above.Given as goal

-- what is told so far is so
abbrev pub invariant-loop-class : goal.invariant-loop-class
invariant-loop-class l = record {
  long : length l.rows.items ≡ l.class;
  told : AreAbove l.image l.rows.items;
}
