use Rattle.std.proofs.Common.{◌≡◌, Ok, Some, take}
use Rattle.std.specs.FinMap as map
use Rattle.std.specs.List.{enumerate_from, flat_map}
use Rattle.sed_engine.specs.Code.{Object}
use Rattle.printed_app.specs.Puts.{Puts}
use Rattle.sed_cycles.specs.Alone as alone
use Rattle.sed_cycles.proofs.text.put_slot_lines.Given as goal

-- the lines of the slots so far
abbrev pub invariant-loop-number : goal.invariant-loop-number
invariant-loop-number g l = (o : Object) → map.get (g.E.Engine.live l.engine) l.component.place.0 ≡ Some o →
    Puts g.O.Sink l.initial.out l.out
    (flat_map (alone.slot_line (g.E.Engine.meaning l.engine) o) (take l.number (enumerate_from 0 l.slots))) (Ok tt)
