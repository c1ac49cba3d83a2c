use Rattle.std.proofs.Common.{◌≤◌}
use Rattle.app_parts.proofs.Lengths.{CountsSizes}
use Rattle.app_parts.proofs.longest.values_size.Given as goal

-- the sizes of the slots before this one are counted
abbrev pub invariant-loop-slot : goal.invariant-loop-slot
invariant-loop-slot l = CountsSizes l.which l.slots l.slot-index l.size × (l.size ≤ 400)
