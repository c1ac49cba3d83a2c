use Rattle.std.proofs.Common.{◌≡◌, take}
use Rattle.std.specs.List.{enumerate_from, filter_map, flat_map}
use Rattle.sed_program.specs.Fields.{field_of}
use Rattle.sed_program.specs.Parts.{own_of}
use Rattle.sed_program.proofs.fields.all_fields.Given as goal

-- the classes so far
abbrev pub invariant-loop-number : goal.invariant-loop-number
invariant-loop-number l =
    l.all.items
    ≡ flat_map
    (λ c. filter_map (field_of l.ordered c.0 c.1) (own_of l.part l.ordered c.1))
    (enumerate_from 0 (take l.number l.order))
