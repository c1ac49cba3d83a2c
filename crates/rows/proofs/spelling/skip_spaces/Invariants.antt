use Rattle.std.proofs.Common.{◌≡◌, ◌≤◌, length}
use Rattle.rows.specs.Fields.{skip_spaces}
use Rattle.rows.proofs.spelling.skip_spaces.Given as goal

abbrev pub invariant-loop-others : goal.invariant-loop-others
invariant-loop-others l = record {
  same : skip_spaces l.rest ≡ skip_spaces l.text;
  shorter : length l.rest ≤ length l.text;
}

abbrev pub decreases-loop-others : goal.decreases-loop-others
decreases-loop-others l = length l.rest
