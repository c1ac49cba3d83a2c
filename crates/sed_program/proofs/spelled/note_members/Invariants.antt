use Rattle.std.proofs.Common.{◌≡◌, take}
use Rattle.std.specs.List.{flat_map}
use Rattle.sed_faults.specs.Faults.{least, lesser}
use Rattle.sed_classes.specs.Bodies.{texts_of}
use Rattle.sed_first_fault.specs.Nodes.{spelled_faults}
use Rattle.sed_first_fault.specs.Texts.{with_literals}
use Rattle.sed_program.proofs.spelled.note_members.Given as goal

-- the members so far
abbrev pub invariant-loop-member : goal.invariant-loop-member
invariant-loop-member l = record {
  texts : l.notes.texts ≡ with_literals l.initial.notes.texts (flat_map texts_of (take l.member-index l.members));
  first : l.notes.first ≡ lesser l.initial.notes.first (least (flat_map spelled_faults
      (take l.member-index l.members)));
}
