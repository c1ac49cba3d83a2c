use Rattle.std.proofs.Common.{◌≡◌, take}
use Rattle.std.specs.List.{flat_map}
use Rattle.sed_faults.specs.Faults.{least}
use Rattle.sed_classes.specs.FieldRules.{value_not_fit}
use Rattle.sed_rules.proofs.values.values_fault.Given as goal

-- the least of the members so far
abbrev pub invariant-loop-member : goal.invariant-loop-member
invariant-loop-member l = l.first ≡ least (flat_map (value_not_fit l.defines l.class l.kit) (take l.member-index l.members))
