use Rattle.std.proofs.Common.{◌≡◌, ◌++◌}
use Rattle.std.specs.FinMap as map
use Rattle.replay_log.specs.Generated.{for_each}
use Rattle.record_making.proofs.TypeLemmas.{types_at}
use Rattle.record_making.proofs.types.push_kit.Given as goal

-- the types with numbers below this one are put
abbrev pub invariant-loop-number : goal.invariant-loop-number
invariant-loop-number g l =
    (l.types.items ≡ l.fn.types.items ++ for_each l.number (types_at (g.E.Engine.meaning l.fn.engine) l.kit))
    × (g.E.Engine.live l.engine ≡ map.empty)
    × (g.E.Engine.meaning l.engine ≡ g.E.Engine.meaning l.fn.engine)
    × (g.E.Engine.limit l.engine ≡ g.E.Engine.limit l.fn.engine)
