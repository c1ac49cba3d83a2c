use Rattle.std.proofs.Common.{◌<◌, ◌≤◌, All, IsTrue, length, sym, ap, subst, ◌∙◌}
use Rattle.std.specs.FinMap as map
use Rattle.comp_tree.specs.Application.{is_live}
use Rattle.comp_tree.specs.Held.{Held, children_in, components_of, parent_in}
use Rattle.comp_tree.specs.Order.{subtree}
use Rattle.comp_tree.proofs.DeleteLemmas.{all_live, subtree_fits, subtree_is}
use Rattle.comp_tree.proofs.EditLemmas.{live_same}
use Rattle.comp_tree.proofs.ShapeLemmas.{In}
use Rattle.comp_tree.proofs.SubtreeLemmas.{all_of, below_live}
use Rattle.comp_tree.proofs.tree.Tree.subtree.Goals as goal

pub at_and_below-requires-clause-live : goal.at_and_below-requires-clause-live
at_and_below-requires-clause-live g c =
    let i = c.self.inside in
    sym (live_same (g.E.Engine.live i.engine) i.nodes c.args.id.0)
    ∙ ap (λ (x : Held _). is_live (components_of g.E.Engine x).by_id c.args.id.0) c.self.view_is ∙ c.requires

pub returns-clause-ids : goal.returns-clause-ids
returns-clause-ids g c =
    let i = c.self.inside in
    c.at_and_below.ensures ∙ sym (subtree_is (g.E.Engine.live i.engine) i.nodes c.args.id.0)
    ∙ ap (λ (x : Held _). subtree (components_of g.E.Engine x).by_id c.args.id.0) c.self.view_is

pub returns-clause-live : goal.returns-clause-live
returns-clause-live g c =
    let i = c.self.inside in
    let there = sym (live_same (g.E.Engine.live i.engine) i.nodes c.args.id.0)
    ∙ ap (λ (x : Held _). is_live (components_of g.E.Engine x).by_id c.args.id.0) c.self.view_is ∙ c.requires
    in
    subst (λ (x : Held _). All (λ id. IsTrue (is_live (components_of g.E.Engine x).by_id id)) c.at_and_below.result.items) c.self.view_is
    (all_live i.nodes c.self.invariant.tree c.args.id.0 there (g.E.Engine.live i.engine) c.at_and_below.result.items c.at_and_below.ensures)

pub returns-clause-bound : goal.returns-clause-bound
returns-clause-bound g c =
    let i = c.self.inside in
    let there = sym (live_same (g.E.Engine.live i.engine) i.nodes c.args.id.0)
    ∙ ap (λ (x : Held _). is_live (components_of g.E.Engine x).by_id c.args.id.0) c.self.view_is ∙ c.requires
    in
    all_of (λ x. x < 4096) c.at_and_below.result.items
    (λ x h. c.contains-few.ensures.bound x
    (below_live (map.contains_key i.nodes) (parent_in i.nodes) (children_in i.nodes) c.self.invariant.tree c.args.id.0 there x (subst (In x) c.at_and_below.ensures h)))

pub returns-clause-few : goal.returns-clause-few
returns-clause-few g c =
    let i = c.self.inside in
    let there = sym (live_same (g.E.Engine.live i.engine) i.nodes c.args.id.0)
    ∙ ap (λ (x : Held _). is_live (components_of g.E.Engine x).by_id c.args.id.0) c.self.view_is ∙ c.requires
    in
    subst (λ xs. length xs ≤ 4096) (sym c.at_and_below.ensures) (subtree_fits i.nodes c.self.invariant.tree c.args.id.0 there c.contains-few.ensures.few)
