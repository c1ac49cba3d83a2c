use Rattle.std.proofs.Common.{◌≡◌, ◌≤◌, drop, length, reverse}
use Rattle.std.specs.List.{flat_map}
use Rattle.sed_classes.specs.Slots.{own_slots}
use Rattle.sed_outline.proofs.class_slots.slots.Given as goal

-- the slots of the classes from the place on, the highest first
abbrev pub invariant-upwards : goal.invariant-upwards
invariant-upwards l = record {
  within : l.left ≤ length l.lineage.items;
  so_far : l.all.items ≡ flat_map (own_slots l.based) (reverse (drop l.left l.lineage.items));
}

abbrev pub decreases-upwards : goal.decreases-upwards
decreases-upwards l = l.left
