use Rattle.std.proofs.Common.{sym, ap, ◌∙◌}
use Rattle.std.specs.Prelude.{slice_get}
use Rattle.comp_tree.specs.Held.{Held, by_id_of}
use Rattle.comp_tree.specs.Application.{children_of}
use Rattle.comp_tree.proofs.TreeLemmas.{children_are, no_children}
use Rattle.comp_tree.proofs.tree.Tree.child.Goals as goal

pub returns-in-Some : goal.returns-in-Some
returns-in-Some g c =
    let i = c.self.inside in
    c.nth_child.ensures
    ∙ sym (children_are (g.E.Engine.meaning i.engine) (g.E.Engine.live i.engine) i.nodes c.args.id.0 c.in-Some.node.now (sym c.in-Some.ensures) c.args.n)
    ∙ ap (λ (h : Held _). slice_get (children_of (by_id_of (g.E.Engine.live h.engine) h.nodes) c.args.id.0) c.args.n) c.self.view_is

pub returns-in-None : goal.returns-in-None
returns-in-None g c =
    let i = c.self.inside in
    sym (no_children (g.E.Engine.live i.engine) i.nodes c.args.id.0 c.args.n (sym c.in-None.ensures))
    ∙ ap (λ (h : Held _). slice_get (children_of (by_id_of (g.E.Engine.live h.engine) h.nodes) c.args.id.0) c.args.n) c.self.view_is
