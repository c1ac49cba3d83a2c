use Rattle.std.proofs.Common.{◌≡◌, ◌-◌, length}
use Rattle.scode_code.specs.Kinds as rules
use Rattle.scode_tables.proofs.Climbing.{met}
use Rattle.scode_tables.proofs.lookup.is_at_or_above.Given as goal

-- the steps that are left meet the class exactly where all do
abbrev pub invariant-loop : goal.invariant-loop
invariant-loop l =
    met l.image l.above (length l.image.classes - l.counter) l.at ≡ rules.is_at_or_above l.image l.above l.class
