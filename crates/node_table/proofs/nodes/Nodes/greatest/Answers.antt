use Rattle.std.proofs.Common.{◌≡◌, None, sym, subst}
use Rattle.std.proofs.Math.ListN.{get_or}
use Rattle.std.specs.FinMap as map
use Rattle.std.specs.Prelude.{IsSome}
use Rattle.node_table.proofs.MarkLemmas.{last_greatest, last_live}
use Rattle.node_table.proofs.nodes.Nodes.greatest.Goals as goal

pub returns-clause-live : goal.returns-clause-live
returns-clause-live c =
    let i = c.self.inside in
    subst (λ m. IsSome (map.get m c.last_kept.result)) c.self.view_is
    (last_live 4096 i.index.items i.slab c.self.invariant.indexed c.last_kept.result (λ lt. subst (λ xs. IsSome (get_or xs c.last_kept.result None)) c.deref.ensures.value (c.last_kept.ensures.there lt))
    (subst (λ m. IsSome (map.get m 0)) (sym c.self.view_is) c.requires))

pub returns-clause-greatest : goal.returns-clause-greatest
returns-clause-greatest c = λ other live.
    let i = c.self.inside in
    last_greatest 4096 i.index.items i.slab c.self.invariant.indexed c.last_kept.result (λ q lt. subst (λ xs. get_or xs q None ≡ None) c.deref.ensures.value (c.last_kept.ensures.above q lt))
    other (subst (λ m. IsSome (map.get m other)) (sym c.self.view_is) live)
