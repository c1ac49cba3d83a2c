use Rattle.std.proofs.Common.{◌≡◌, drop}
use Rattle.scode_fields.specs.Stages as stages
use Rattle.scode_fields.proofs.Loops.{all_from}
use Rattle.scode_fields.proofs.tables.classes_are_laid.Given as goal

-- the classes that are left agree exactly where all do
abbrev pub invariant-loop-class : goal.invariant-loop-class
invariant-loop-class l =
    all_from (stages.class_is_laid l.image) l.class (drop l.class l.classes)
    ≡ all_from (stages.class_is_laid l.image) 0 l.classes
