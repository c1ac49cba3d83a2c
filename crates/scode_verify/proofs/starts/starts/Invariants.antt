use Rattle.std.proofs.Common.{◌≡◌, ℕ, ◌-◌, length}
use Rattle.scode_code.specs.CodeRules.{is_start}
use Rattle.scode_verify.proofs.Marks.{marked}
use Rattle.scode_verify.proofs.starts.starts.Given as goal

-- of each place it is told, or still to be told, whether it is a start
abbrev pub invariant-loop : goal.invariant-loop
invariant-loop l = record {
  long : length l.told.items ≡ length l.code;
  is : (p : ℕ) → marked l.told.items (length l.code - l.counter) l.place l.code p ≡ is_start l.code p;
}
