use Rattle.std.proofs.Common.{◌≡◌, take}
use Rattle.std.specs.List.{flat_map}
use Rattle.sed_faults.specs.Faults.{least}
use Rattle.sed_classes.specs.FieldRules.{object_not_fit}
use Rattle.sed_outline.proofs.objects.objects_fault.Given as goal

-- the least of the members so far
abbrev pub invariant-loop-member : goal.invariant-loop-member
invariant-loop-member l = l.first ≡ least (flat_map (object_not_fit l.measured l.kit) (take l.member-index l.members))
