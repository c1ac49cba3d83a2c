use Rattle.std.proofs.Common.{◌≤◌, ◌*◌, length}
use Rattle.sed_node.specs.Standing.{IsKept, SameSetup, code_of}
use Rattle.sed_node.proofs.Places.{Visited}
use Rattle.sed_node.proofs.kept.Kept.visit_all.Given as goal

-- the places before this one have been visited
abbrev pub invariant-loop-place : goal.invariant-loop-place
invariant-loop-place g l = record {
  is_kept : IsKept g.E.Engine l.self;
  same : SameSetup g.E.Engine l.fn.self l.self;
  few : l.place ≤ 16;
  room : length l.out ≤ 32 * l.place;
  told : Visited g.E.Engine (code_of g.E.Engine l.fn.self) l.fn.self l.self l.place l.out;
}
