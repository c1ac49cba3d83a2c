use Rattle.std.proofs.Common.{None, is_some, sym, ap, subst, ◌∙◌, ◌≤◌}
use Rattle.std.proofs.Math.ListN.{get_or}
use Rattle.std.specs.FinMap as map
use Rattle.std.specs.Prelude.{IsSome}
use Rattle.node_table.proofs.IndexLemmas.{few_kept, id_fits, live_at}
use Rattle.node_table.proofs.nodes.Nodes.contains.Goals as goal

pub returns-clause-same : goal.returns-clause-same
returns-clause-same c =
    c.is_some.ensures ∙ ap is_some (c.key_at.ensures ∙ ap (λ xs. get_or xs c.args.id.0 None) c.deref.ensures.value)
    ∙ live_at 4096 c.self.inside.index.items c.self.inside.slab c.self.invariant.indexed c.args.id.0 ∙ ap (λ m. is_some (map.get m c.args.id.0)) c.self.view_is

pub returns-clause-few : goal.returns-clause-few
returns-clause-few c = subst (λ m. map.len m ≤ 4096) c.self.view_is (few_kept 4096 c.self.inside.index.items c.self.inside.slab c.self.invariant.indexed)

pub returns-clause-bound : goal.returns-clause-bound
returns-clause-bound c = λ other live.
    id_fits 4096 c.self.inside.index.items c.self.inside.slab c.self.invariant.indexed other (subst (λ m. IsSome (map.get m other)) (sym c.self.view_is) live)
