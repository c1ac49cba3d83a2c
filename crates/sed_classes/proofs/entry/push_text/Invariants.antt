use Rattle.std.proofs.Common.{◌≡◌, ◌≤◌, ◌+◌, ◌-◌, ◌++◌, drop, length}
use Rattle.sed_classes.specs.Declarations.{text_declares}
use Rattle.sed_classes.specs.Entries.{declarations}
use Rattle.sed_classes.proofs.entry.push_text.Given as goal

-- with what the classes left would add, all is there
abbrev pub invariant-loop-class : goal.invariant-loop-class
invariant-loop-class l = record {
  room : l.start ≤ length l.all.items;
  len : length l.all.items ≡ length l.initial.all.items + l.class-index;
  so_far : declarations l.all.items ++ text_declares l.kit l.text (length l.all.items - l.start) (drop l.class-index l.classes)
      ≡ declarations l.initial.all.items ++ text_declares l.kit l.text (length l.initial.all.items - l.start) l.classes;
}
