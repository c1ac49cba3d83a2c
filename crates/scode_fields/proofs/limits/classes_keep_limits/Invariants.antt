use Rattle.std.proofs.Common.{◌≡◌, drop}
use Rattle.scode_code.specs.TableRules as rules
use Rattle.scode_fields.proofs.Loops.{all_from}
use Rattle.scode_fields.proofs.limits.classes_keep_limits.Given as goal

-- the classes that are left keep them exactly where all do
abbrev pub invariant-loop-class : goal.invariant-loop-class
invariant-loop-class l =
    all_from (rules.class_keeps_limits l.image) l.class (drop l.class l.classes)
    ≡ all_from (rules.class_keeps_limits l.image) 0 l.classes
