use Rattle.std.proofs.Common.{◌≡◌, take, map}
use Rattle.sed_engine.specs.Code.{new_object, slot_value}
use Rattle.node_table.specs.Values.{spelling_of_all}
use Rattle.record_making.proofs.config.first_values.Given as goal

abbrev pub invariant-loop-slot : goal.invariant-loop-slot
invariant-loop-slot g l =
    l.bytes.items ≡ spelling_of_all (map (slot_value (g.E.Engine.meaning l.engine) (new_object (g.E.Engine.meaning l.engine) l.fn.class.0)) (take l.slot-index l.slots))
