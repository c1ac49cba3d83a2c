use Rattle.std.proofs.Common.{◌≡◌, take}
use Rattle.std.specs.List.{flat_map}
use Rattle.sed_faults.specs.Faults.{least}
use Rattle.sed_first_fault.specs.Integers.{too_large_in_member}
use Rattle.sed_first_fault.proofs.integers.too_large_in_members.Given as goal

abbrev pub invariant-loop-member : goal.invariant-loop-member
invariant-loop-member l = l.first ≡ least (flat_map too_large_in_member (take l.member-index l.members))
