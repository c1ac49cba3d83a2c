use Rattle.std.proofs.Common.{ℕ, ◌<◌, get_or}
use Rattle.sed_typed.specs.Spelled.{IsSpelledSlot}
use Rattle.sed_typed.specs.declared.schema.SlotInfo.{SlotInfo}
use Rattle.sed_typed.proofs.spelled.slots_are_spelled_out.Given as goal

abbrev pub invariant-loop-slot : goal.invariant-loop-slot
invariant-loop-slot l = (k : ℕ) (d : SlotInfo) → k < l.slot-index → IsSpelledSlot (get_or l.slots k d)
