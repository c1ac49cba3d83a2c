use Rattle.std.proofs.Common.{None, sym, ap, ◌∙◌}
use Rattle.std.proofs.Math.ListN.{get_or}
use Rattle.std.specs.FinMap as map
use Rattle.node_table.specs.Indexed.{kept_at}
use Rattle.node_table.proofs.IndexLemmas.{node_at}
use Rattle.node_table.proofs.nodes.Nodes.get.Goals as goal

pub returns-in-Some : goal.returns-in-Some
returns-in-Some c =
    c.get.ensures
    ∙ sym (node_at c.self.inside.index.items c.self.inside.slab c.args.id.0 ∙ ap (kept_at c.self.inside.slab) (ap (λ xs. get_or xs c.args.id.0 None) (sym c.deref.ensures.value) ∙ sym c.in-Some.ensures))
    ∙ ap (λ m. map.get m c.args.id.0) c.self.view_is

pub returns-in-None : goal.returns-in-None
returns-in-None c =
    sym (node_at c.self.inside.index.items c.self.inside.slab c.args.id.0 ∙ ap (kept_at c.self.inside.slab) (ap (λ xs. get_or xs c.args.id.0 None) (sym c.deref.ensures.value) ∙ sym c.in-None.ensures))
    ∙ ap (λ m. map.get m c.args.id.0) c.self.view_is
