use Rattle.std.proofs.Common.{◌≡◌, ◌++◌, take}
use Rattle.std.specs.List.{flat_map}
use Rattle.sed_classes.specs.Canonical.{slot_line}
use Rattle.sed_classes.proofs.text.push_slots.Given as goal

-- the lines of the slots so far
abbrev pub invariant-loop-slot : goal.invariant-loop-slot
invariant-loop-slot l = l.out.items ≡ l.initial.out.items ++ flat_map slot_line (take l.slot-index l.slots)
