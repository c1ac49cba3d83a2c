use Rattle.std.proofs.Common.{◌≡◌, ◌≤◌, ◌-◌, ◌++◌, drop, length}
use Rattle.sed_classes.specs.Declarations.{kit_declares}
use Rattle.sed_classes.specs.Entries.{declarations}
use Rattle.sed_classes.proofs.entry.push_kit.Given as goal

-- with what the texts left would add, all is there
abbrev pub invariant-loop-text : goal.invariant-loop-text
invariant-loop-text l = record {
  room : l.start ≤ length l.all.items;
  so_far : declarations l.all.items ++ kit_declares l.kit l.text (length l.all.items - l.start) (drop l.text l.units)
      ≡ declarations l.initial.all.items ++ kit_declares l.kit 0 0 l.units;
}
