use Rattle.std.proofs.Common.{sym, ap, ◌∙◌}
use Rattle.comp_tree.specs.Application.{is_live}
use Rattle.comp_tree.specs.Held.{Held, components_of}
use Rattle.comp_tree.proofs.EditLemmas.{live_same}
use Rattle.comp_tree.proofs.tree.Tree.depth_first.Goals as goal

-- the App is live
pub subtree-requires : goal.subtree-requires
subtree-requires g c =
    let i = c.self.inside in
    ap (λ (x : Held _). is_live (components_of g.E.Engine x).by_id 0) (sym c.self.view_is) ∙ live_same (g.E.Engine.live i.engine) i.nodes 0 ∙ c.self.invariant.tree.app
