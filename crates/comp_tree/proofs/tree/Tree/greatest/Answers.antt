use Rattle.std.proofs.Common.{subst}
use Rattle.comp_tree.specs.Held.{Held, by_id_of}
use Rattle.comp_tree.specs.Told.{IsGreatest}
use Rattle.comp_tree.proofs.EditLemmas.{greatest_is}
use Rattle.comp_tree.proofs.tree.Tree.greatest.Goals as goal

pub greatest-requires : goal.greatest-requires
greatest-requires g c = c.self.invariant.tree.app

pub returns : goal.returns
returns g c =
    let i = c.self.inside in
    subst (λ (h : Held _). IsGreatest (by_id_of (g.E.Engine.live h.engine) h.nodes) c.greatest.result.0) c.self.view_is
    (greatest_is (g.E.Engine.live i.engine) i.nodes c.greatest.result.0 c.greatest.ensures.live c.greatest.ensures.greatest)
