use Rattle.std.proofs.Common.{[], take}
use Rattle.std.specs.List.{enumerate_from, flat_map}
use Rattle.std.specs.Vec.Iter.{into_iter_items}
use Rattle.sed_program.specs.Methods.{methods_in}
use Rattle.sed_check.specs.Parts.{Grows}
use Rattle.sed_check.proofs.heads.all_methods.Given as goal

-- with those of the classes so far
abbrev pub invariant-loop-number : goal.invariant-loop-number
invariant-loop-number l =
    Grows
    l.ordered
    (flat_map (methods_in l.ordered) (enumerate_from 0 (take l.number l.order)))
    []
    (into_iter_items l.initial.bodies)
    l.all.items
    (into_iter_items l.bodies)
