use Rattle.std.proofs.Common.{Ok, take}
use Rattle.std.specs.List.{flat_map}
use Rattle.printed_app.specs.Puts.{Puts}
use Rattle.printed_app.specs.Application.{link_line}
use Rattle.printed_app.proofs.links.put_links.Given as goal

-- the lines of the links so far
abbrev pub invariant-loop-n : goal.invariant-loop-n
invariant-loop-n g l = Puts g.O.Sink l.initial.out l.out (flat_map link_line (take l.n l.app.links)) (Ok tt)
