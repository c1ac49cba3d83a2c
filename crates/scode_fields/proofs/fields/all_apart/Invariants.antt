use Rattle.std.proofs.Common.{◌≡◌, drop, length}
use Rattle.scode_code.specs.TableRules as rules
use Rattle.scode_fields.proofs.Apart.{are_left_apart}
use Rattle.scode_fields.proofs.fields.all_apart.Given as goal

-- the fields that are left are free and apart exactly where all are apart
abbrev pub invariant-loop-field : goal.invariant-loop-field
invariant-loop-field l = record {
  long : length l.taken.items ≡ l.size;
  same : are_left_apart l.image l.taken.items (drop l.field-index l.fields) ≡ rules.all_apart l.image l.fields;
}
