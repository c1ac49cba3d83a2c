use Rattle.std.proofs.Common.{◌≡◌, ℕ, ◌≤◌, ◌-◌, List, ◌++◌, length, codes}
use Rattle.sed_lexer.proofs.gaps.comment_end.Given as goal

abbrev pub invariant-loop-at : goal.invariant-loop-at
invariant-loop-at l = record {
  within : l.at ≤ length l.text;
  none_before : (earlier after : List ℕ) → l.text ≡ earlier ++ (codes "*/" ++ after) → l.at ≤ length earlier;
}

abbrev pub decreases-loop-at : goal.decreases-loop-at
decreases-loop-at l = length l.text - l.at
