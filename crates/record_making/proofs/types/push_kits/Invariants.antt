use Rattle.std.proofs.Common.{◌≡◌, ◌++◌}
use Rattle.std.specs.FinMap as map
use Rattle.replay_log.specs.Generated.{for_each}
use Rattle.record_making.specs.Types.{types_in_kit}
use Rattle.record_making.proofs.types.push_kits.Given as goal

-- the types of the kits before this one are put
abbrev pub invariant-loop-kit : goal.invariant-loop-kit
invariant-loop-kit g l =
    (l.types.items ≡ l.fn.types.items ++ for_each l.kit (types_in_kit (g.E.Engine.meaning l.fn.engine)))
    × (g.E.Engine.live l.engine ≡ map.empty)
    × (g.E.Engine.meaning l.engine ≡ g.E.Engine.meaning l.fn.engine)
    × (g.E.Engine.limit l.engine ≡ g.E.Engine.limit l.fn.engine)
