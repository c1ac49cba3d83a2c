use Rattle.std.proofs.Common.{◌≡◌, ◌*◌, ◌≤◌, take, sum_by}
use Rattle.scode_fields.specs.Words as words
use Rattle.scode_fields.proofs.limits.values_size.Given as goal

-- the size is that of the values so far
abbrev pub invariant-loop-slot : goal.invariant-loop-slot
invariant-loop-slot l = record {
  sum : l.size ≡ sum_by (words.counted l.config) (take l.slot-index l.slots);
  most : l.size ≤ 65537 * l.slot-index;
}
