use Rattle.std.proofs.Common.{◌≡◌, ◌++◌, filter, take}
use Rattle.std.specs.List.{filter_map}
use Rattle.sed_classes.specs.Members.{members_of}
use Rattle.sed_program.specs.Fields.{field_of}
use Rattle.sed_program.specs.Parts.{is_of}
use Rattle.sed_program.proofs.fields.push_fields.Given as goal

-- the members so far
abbrev pub invariant-loop-member : goal.invariant-loop-member
invariant-loop-member l =
    l.into.items
    ≡ l.initial.into.items
    ++ filter_map (field_of l.ordered l.number l.class) (filter (is_of l.part) (take l.member-index
    (members_of l.ordered l.class)))
