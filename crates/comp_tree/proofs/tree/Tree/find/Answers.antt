use Rattle.std.proofs.Common.{sym, ap, subst, ◌∙◌}
use Rattle.std.specs.Prelude.{IsSomeAnd}
use Rattle.std.specs.FinMap as map
use Rattle.comp_tree.specs.Held.{Held, by_id_of}
use Rattle.comp_tree.specs.Told.{IsEntry}
use Rattle.comp_tree.proofs.TreeLemmas.{entry_is, no_component}
use Rattle.comp_tree.proofs.tree.Tree.find.Goals as goal

pub returns-in-Some-clause-told : goal.returns-in-Some-clause-told
returns-in-Some-clause-told g c =
    let i = c.self.inside in
    let e = c.entry_of.ensures in
    subst (λ (h : Held _). IsSomeAnd (map.get (by_id_of (g.E.Engine.live h.engine) h.nodes) c.args.id.0) (IsEntry (g.E.Engine.live h.engine) c.entry_of.result)) c.self.view_is
    (entry_is (g.E.Engine.meaning i.engine) (g.E.Engine.live i.engine) i.nodes c.self.invariant.placed c.args.id.0 c.in-Some.node.now (sym c.in-Some.ensures) c.entry_of.result
    e.kind e.name e.parent e.children e.fault e.place)

pub returns-in-None-clause-told : goal.returns-in-None-clause-told
returns-in-None-clause-told g c =
    let i = c.self.inside in
    ap (λ (h : Held _). map.get (by_id_of (g.E.Engine.live h.engine) h.nodes) c.args.id.0) (sym c.self.view_is)
    ∙ no_component (g.E.Engine.live i.engine) i.nodes c.args.id.0 (sym c.in-None.ensures)
