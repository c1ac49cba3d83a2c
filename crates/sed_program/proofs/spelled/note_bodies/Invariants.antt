use Rattle.std.proofs.Common.{◌≡◌, [], map, take}
use Rattle.std.specs.List.{flat_map, range_with_len}
use Rattle.sed_faults.specs.Faults.{least}
use Rattle.sed_classes.specs.Declarations.{all_classes}
use Rattle.sed_classes.specs.Members.{members_of}
use Rattle.sed_first_fault.specs.Nodes.{spelled_faults}
use Rattle.sed_first_fault.specs.Texts.{with_literals}
use Rattle.sed_program.specs.Texts.{literals_of}
use Rattle.sed_program.proofs.spelled.note_bodies.Given as goal

-- the classes so far
abbrev pub invariant-loop-class : goal.invariant-loop-class
invariant-loop-class l = record {
  texts : l.notes.texts ≡ with_literals [] (flat_map literals_of (take l.class (all_classes l.based)));
  faults : l.faults.items ≡ map (λ class. least (flat_map spelled_faults (members_of l.based class)))
      (range_with_len 0 l.class);
}
