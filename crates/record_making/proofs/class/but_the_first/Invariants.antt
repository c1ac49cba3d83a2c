use Rattle.std.proofs.Common.{◌≡◌, filter, take, nat_lt}
use Rattle.record_making.proofs.class.but_the_first.Given as goal

abbrev pub invariant-loop-slot : goal.invariant-loop-slot
invariant-loop-slot l = l.others.items ≡ filter (λ slot. nat_lt 0 slot) (take l.slot-index l.slots)
