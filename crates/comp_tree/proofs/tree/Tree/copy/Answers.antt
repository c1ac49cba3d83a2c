use Rattle.std.proofs.Common.{sym, ap, ◌∙◌, subst}
use Rattle.std.specs.Prelude.{IsTrue, IsSomeAnd}
use Rattle.std.specs.FinMap as map
use Rattle.sed_value.specs.declared.value.Value.{Value}
use Rattle.sed_engine.specs.Code.{may_store}
use Rattle.comp_tree.specs.Application.{Component, type_at, value_at}
use Rattle.comp_tree.specs.Held.{Held, by_id_of}
use Rattle.comp_tree.specs.Links.{go_together_if_there}
use Rattle.comp_tree.proofs.FitLemmas.{components_fit, may_be_copied}
use Rattle.comp_tree.proofs.tree.Tree.copy.Goals as goal

pub assign-requires : goal.assign-requires
assign-requires g c =
    let i = c.self.inside in
    let go = subst (λ (x : Held _). IsTrue (go_together_if_there (type_at (g.E.Engine.meaning x.engine) (by_id_of (g.E.Engine.live x.engine) x.nodes) c.args.from.0 c.args.from_slot) (type_at (g.E.Engine.meaning x.engine) (by_id_of (g.E.Engine.live x.engine) x.nodes) c.args.to.0 c.args.to_slot))) (sym c.self.view_is) c.requires in
    let may = may_be_copied (g.E.Engine.meaning i.engine) (by_id_of (g.E.Engine.live i.engine) i.nodes) c.schema-whole.ensures.whole.tables
    (components_fit (g.E.Engine.meaning i.engine) (g.E.Engine.live i.engine) i.nodes c.self.invariant.placed c.schema-whole.ensures.objects)
    c.args.from.0 c.args.from_slot c.args.to.0 c.args.to_slot go in
    let was = ap (λ (x : Held _). value_at (g.E.Engine.meaning x.engine) (by_id_of (g.E.Engine.live x.engine) x.nodes) c.args.from.0 c.args.from_slot) c.self.view_is in
    subst (λ (x : Held _). IsSomeAnd (map.get (by_id_of (g.E.Engine.live x.engine) x.nodes) c.args.to.0) (λ (k : Component). IsTrue (may_store (g.E.Engine.meaning x.engine) k.class c.args.to_slot c.get.new.out))) c.self.view_is
    (subst (λ (v : Value). IsSomeAnd (map.get (by_id_of (g.E.Engine.live i.engine) i.nodes) c.args.to.0) (λ (k : Component). IsTrue (may_store (g.E.Engine.meaning i.engine) k.class c.args.to_slot v))) (was ∙ sym c.in-Ok.ensures.value) may)
