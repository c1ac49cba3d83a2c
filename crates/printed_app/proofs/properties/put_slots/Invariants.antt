use Rattle.std.proofs.Common.{Ok, take}
use Rattle.std.specs.List.{enumerate_from, flat_map}
use Rattle.comp_tree.specs.Held.{components_of}
use Rattle.printed_app.specs.Puts.{Puts}
use Rattle.printed_app.specs.Application.{slot_line}
use Rattle.printed_app.proofs.properties.put_slots.Given as goal

-- the lines of the slots so far
abbrev pub invariant-loop-number : goal.invariant-loop-number
invariant-loop-number g l =
    Puts g.O.Sink l.initial.out l.out
    (flat_map (slot_line (g.E.Engine.meaning l.tree.engine) (components_of g.E.Engine l.tree).by_id l.id.0)
    (take l.number (enumerate_from 0 l.slots))) (Ok tt)
