use Rattle.std.proofs.Common.{◌≡◌, take}
use Rattle.sub_table.proofs.links.Links.from_slice.Given as goal

-- the links before this one
abbrev pub invariant-loop-l : goal.invariant-loop-l
invariant-loop-l l = l.all ≡ take l.l-index l.links
