use Rattle.std.proofs.Common.{◌≡◌, take}
use Rattle.std.specs.List.{sum_by}
use Rattle.sed_classes.specs.Objects.{data_of}
use Rattle.sed_outline.specs.Rounds.{capped, item}
use Rattle.sed_outline.proofs.sizes.members_size.Given as goal

-- the members so far
abbrev pub invariant-loop-member : goal.invariant-loop-member
invariant-loop-member l =
    l.sum ≡ capped (sum_by (data_of l.classes (item 0 l.sizes) l.kit) (take l.member-index l.members))
