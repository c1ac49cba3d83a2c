use Rattle.std.proofs.Common.{◌≡◌, map, take}
use Rattle.sed_classes.specs.Members.{owned}
use Rattle.sed_program.specs.Tables.{declared_of}
use Rattle.sed_program.proofs.ordered.Ordered.declared_in.Given as goal

-- the members so far
abbrev pub invariant-loop-member : goal.invariant-loop-member
invariant-loop-member l = l.all.items ≡ map (λ m. declared_of l.self (owned l.class l.kit m))
    (take l.member-index l.members)
