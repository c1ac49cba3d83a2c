use Rattle.std.proofs.Common.{◌≡◌, ◌++◌, take}
use Rattle.std.specs.List.{filter_map}
use Rattle.sed_outline.specs.Rounds.{inline_of}
use Rattle.sed_outline.proofs.fields.push_inline.Given as goal

-- those of the members so far
abbrev pub invariant-loop-member : goal.invariant-loop-member
invariant-loop-member l =
    l.into.items ≡ l.initial.into.items ++ filter_map (inline_of l.classes l.kit) (take l.member-index l.members)
