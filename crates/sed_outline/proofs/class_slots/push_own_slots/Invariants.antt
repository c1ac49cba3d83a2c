use Rattle.std.proofs.Common.{◌≡◌, ◌++◌, take}
use Rattle.std.specs.List.{filter_map}
use Rattle.sed_classes.specs.Slots.{slot_of}
use Rattle.sed_outline.proofs.class_slots.push_own_slots.Given as goal

-- the slots of the members so far
abbrev pub invariant-loop-member : goal.invariant-loop-member
invariant-loop-member l = l.into.items ≡ l.initial.into.items
    ++ filter_map (slot_of l.classes l.kit) (take l.member-index l.all)
