use Rattle.std.proofs.Common.{◌≡◌, ℕ, ◌<◌, ◌≤◌, drop, length, get_or, None}
use Rattle.scode_verify.specs.Words.{first_number}
use Rattle.scode_verify.proofs.entries.entry_numbers.Given as goal

-- the entries from one on have their numbers
abbrev pub invariant-loop-left : goal.invariant-loop-left
invariant-loop-left l = record {
  long : length l.numbers.items ≡ length l.method.code;
  within : l.left ≤ length l.entries;
  is : (p : ℕ) → p < length l.numbers.items
      → get_or l.numbers.items p None ≡ first_number p l.left (drop l.left l.entries);
}

abbrev pub decreases-loop-left : goal.decreases-loop-left
decreases-loop-left l = l.left
