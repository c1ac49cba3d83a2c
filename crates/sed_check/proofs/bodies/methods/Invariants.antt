use Rattle.std.proofs.Common.{map, filter, take}
use Rattle.sed_classes.specs.Members.{is_method}
use Rattle.sed_check.specs.Judgements.{Grows, method_at}
use Rattle.sed_check.proofs.bodies.methods.Given as goal

abbrev pub invariant-loop-member : goal.invariant-loop-member
invariant-loop-member l =
    Grows l.tables (map (method_at l.tables l.number l.class) (filter is_method (take l.member-index l.members)))
    l.fn.bodies l.bodies
