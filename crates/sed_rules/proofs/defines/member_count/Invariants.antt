use Rattle.std.proofs.Common.{◌≡◌, length, take}
use Rattle.std.specs.List.{sum_by}
use Rattle.sed_classes.specs.Declarations.{Declaration, all_classes}
use Rattle.sed_rules.proofs.defines.member_count.Given as goal

-- those of the classes so far
abbrev pub invariant-loop-class : goal.invariant-loop-class
invariant-loop-class l = l.count ≡ sum_by (λ (d : Declaration). length d.class.members) (take l.class (all_classes l.classes))
