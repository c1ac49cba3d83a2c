use Rattle.std.proofs.Common.{◌≡◌, map, take}
use Rattle.scode_code.specs.Tables.{slot_of}
use Rattle.scode_engine.proofs.schema.slots_of.Given as goal

abbrev pub invariant-loop-slot : goal.invariant-loop-slot
invariant-loop-slot l = l.all.items ≡ map slot_of (take l.slot-index l.slots)
