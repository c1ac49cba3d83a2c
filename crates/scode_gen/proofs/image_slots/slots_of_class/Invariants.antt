use Rattle.std.proofs.Common.{◌≡◌, ℕ, ◌++◌, drop, map}
use Rattle.std.specs.List.{enumerate_from}
use Rattle.sed_typed.specs.declared.schema.SlotInfo.{SlotInfo}
use Rattle.scode_gen.specs.ImageSlots.{image_slot, image_slots}
use Rattle.scode_gen.proofs.image_slots.slots_of_class.Given as goal

abbrev pub invariant-loop-number : goal.invariant-loop-number
invariant-loop-number l =
    l.made.items ++ map (λ (at : ℕ × SlotInfo). image_slot l.parts.program.now l.parts.class at.0 at.1) (enumerate_from l.number (drop l.number l.slots))
    ≡ image_slots l.parts.program.now l.parts.class l.slots
