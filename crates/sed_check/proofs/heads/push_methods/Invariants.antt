use Rattle.std.proofs.Common.{filter, map, take}
use Rattle.std.specs.Vec.Iter.{into_iter_items}
use Rattle.sed_classes.specs.Members.{is_method, kit_of, members_of}
use Rattle.sed_check.specs.Parts.{Grows, method_at}
use Rattle.sed_check.proofs.heads.push_methods.Given as goal

-- with those of the members so far
abbrev pub invariant-loop-member : goal.invariant-loop-member
invariant-loop-member l =
    Grows
    l.ordered
    (map
    (method_at l.number l.class (kit_of l.ordered l.class))
    (filter is_method (take l.member-index (members_of l.ordered l.class))))
    l.initial.into.items
    (into_iter_items l.initial.bodies)
    l.into.items
    (into_iter_items l.bodies)
