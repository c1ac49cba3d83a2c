use Rattle.std.proofs.Common.{◌≡◌, ◌++◌, drop}
use Rattle.record_making.specs.Slots.{is_of, numbers_that}
use Rattle.record_making.proofs.SlotLemmas.{numbers_from}
use Rattle.record_making.proofs.class.slots_that.Given as goal

-- what is found and what is left to find are the whole
abbrev pub invariant-loop-slot : goal.invariant-loop-slot
invariant-loop-slot l = l.found.items ++ numbers_from (is_of l.sort) l.slot (drop l.slot l.slots) ≡ numbers_that (is_of l.sort) l.slots
