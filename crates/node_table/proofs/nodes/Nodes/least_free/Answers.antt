use Rattle.std.proofs.Common.{◌<◌, sym, ap, subst, ◌∙◌}
use Rattle.std.specs.FinMap as map
use Rattle.std.specs.Prelude.{IsSome}
use Rattle.node_table.specs.Indexed.{kept_at}
use Rattle.node_table.proofs.IndexLemmas.{node_at, kept_there}
use Rattle.node_table.proofs.MarkLemmas.{some_unmarked, free_none, taken_some}
use Rattle.node_table.proofs.nodes.Nodes.least_free.Goals as goal

pub first_free-requires : goal.first_free-requires
first_free-requires c =
    some_unmarked 4096 c.self.inside.index.items c.self.inside.slab c.self.inside.taken c.self.invariant (subst (λ m. map.len m < 4096) (sym c.self.view_is) c.requires)

pub returns-clause-free : goal.returns-clause-free
returns-clause-free c =
    ap (λ m. map.get m c.first_free.result) (sym c.self.view_is) ∙ node_at c.self.inside.index.items c.self.inside.slab c.first_free.result
    ∙ ap (kept_at c.self.inside.slab) (free_none 4096 c.self.inside.index.items c.self.inside.slab c.self.inside.taken c.self.invariant c.first_free.result c.first_free.ensures.free)

pub returns-clause-least : goal.returns-clause-least
returns-clause-least c = λ id lt.
    subst (λ m. IsSome (map.get m id)) c.self.view_is
    (kept_there 4096 c.self.inside.index.items c.self.inside.slab c.self.invariant.indexed id
    (taken_some 4096 c.self.inside.index.items c.self.inside.slab c.self.inside.taken c.self.invariant id (c.first_free.ensures.least id lt)))
