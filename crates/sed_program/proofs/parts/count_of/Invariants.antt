use Rattle.std.proofs.Common.{◌≡◌, ◌≤◌, filter, length, take}
use Rattle.sed_program.specs.Parts.{is_of}
use Rattle.sed_program.proofs.parts.count_of.Given as goal

abbrev pub invariant-loop-member : goal.invariant-loop-member
invariant-loop-member l = record {
  count : l.count ≡ length (filter (is_of l.part) (take l.member-index l.members));
  small : l.count ≤ l.member-index;
}
