use Rattle.std.proofs.Common.{not, sym, ap, subst, ◌∙◌}
use Rattle.std.specs.Prelude.{IsSomeAnd, IsTrue}
use Rattle.std.specs.FinMap as map
use Rattle.sed_engine.specs.Code.{may_store}
use Rattle.comp_tree.specs.Held.{Held, by_id_of, components_of}
use Rattle.comp_tree.specs.Links.{has_changed, store}
use Rattle.node_table.specs.Same.{is_same_value}
use Rattle.comp_tree.proofs.EditLemmas.{change_is, none_there, placed_store, property_here, reads_again, store_is}
use Rattle.comp_tree.proofs.RunLemmas.{may_here}
use Rattle.comp_tree.proofs.TreeLemmas.{no_component}
use Rattle.comp_tree.proofs.tree.Tree.store.Goals as goal

pub returns-in_default-clause-stored : goal.returns-in_default-clause-stored
returns-in_default-clause-stored g c =
    absurd (none_there _ _ (ap (λ (x : Held _). map.get (by_id_of (g.E.Engine.live x.engine) x.nodes) c.args.id.0) (sym c.self.view_is) ∙ no_component (g.E.Engine.live c.self.inside.engine) c.self.inside.nodes c.args.id.0 (sym c.in_default.ensures)) c.requires)

pub returns-in_default-clause-changed : goal.returns-in_default-clause-changed
returns-in_default-clause-changed g c =
    absurd (none_there _ _ (ap (λ (x : Held _). map.get (by_id_of (g.E.Engine.live x.engine) x.nodes) c.args.id.0) (sym c.self.view_is) ∙ no_component (g.E.Engine.live c.self.inside.engine) c.self.inside.nodes c.args.id.0 (sym c.in_default.ensures)) c.requires)

pub set-requires : goal.set-requires
set-requires g c =
    let i = c.self.inside in
    may_here (g.E.Engine.meaning i.engine) (g.E.Engine.live i.engine) i.nodes c.self.invariant.placed c.args.id.0 c.in-Some.node.now (sym c.in-Some.ensures)
    (λ class. IsTrue (may_store (g.E.Engine.meaning i.engine) class c.args.slot c.args.value.now))
    (subst (λ (x : Held _). IsSomeAnd (map.get (by_id_of (g.E.Engine.live x.engine) x.nodes) c.args.id.0) (λ k. IsTrue (may_store (g.E.Engine.meaning x.engine) k.class c.args.slot c.args.value.now))) (sym c.self.view_is) c.requires)

pub get-requires-2 : goal.get-requires-2
get-requires-2 g c =
    let i = c.self.inside in
    property_here (g.E.Engine.meaning i.engine) c.args.slot c.args.value.now _
    (may_here (g.E.Engine.meaning i.engine) (g.E.Engine.live i.engine) i.nodes c.self.invariant.placed c.args.id.0 c.in-Some.node.now (sym c.in-Some.ensures)
    (λ class. IsTrue (may_store (g.E.Engine.meaning i.engine) class c.args.slot c.args.value.now))
    (subst (λ (x : Held _). IsSomeAnd (map.get (by_id_of (g.E.Engine.live x.engine) x.nodes) c.args.id.0) (λ k. IsTrue (may_store (g.E.Engine.meaning x.engine) k.class c.args.slot c.args.value.now))) (sym c.self.view_is) c.requires))

pub get-requires-3 : goal.get-requires-3
get-requires-3 g c =
    let i = c.self.inside in
    let h : Held _ = record { engine = i.engine; nodes = i.nodes } in
    reads_again g.E.Engine h c.self.invariant.placed c.args.id.0 c.args.slot c.args.value.now c.in-Some.node.now (sym c.in-Some.ensures) c.set.new.self c.set.ensures.written c.set.ensures.meaning c.set.ensures.statics c.set.ensures.limit
    (may_here (g.E.Engine.meaning i.engine) (g.E.Engine.live i.engine) i.nodes c.self.invariant.placed c.args.id.0 c.in-Some.node.now (sym c.in-Some.ensures)
    (λ class. IsTrue (may_store (g.E.Engine.meaning i.engine) class c.args.slot c.args.value.now))
    (subst (λ (x : Held _). IsSomeAnd (map.get (by_id_of (g.E.Engine.live x.engine) x.nodes) c.args.id.0) (λ k. IsTrue (may_store (g.E.Engine.meaning x.engine) k.class c.args.slot c.args.value.now))) (sym c.self.view_is) c.requires))

pub invariant_of-self : goal.invariant_of-self
invariant_of-self g c =
    let h : Held _ = record { engine = c.self.inside.engine; nodes = c.self.inside.nodes } in
    record {
      placed = placed_store g.E.Engine h c.self.invariant.placed c.args.id.0 c.args.slot c.args.value.now c.in-Some.node.now (sym c.in-Some.ensures) c.set.new.self c.set.ensures.written c.set.ensures.meaning c.set.ensures.statics c.set.ensures.limit;
      tree = c.self.invariant.tree;
    }

pub returns-clause-stored : goal.returns-clause-stored
returns-clause-stored g c =
    let h : Held _ = record { engine = c.self.inside.engine; nodes = c.self.inside.nodes } in
    store_is g.E.Engine h c.self.invariant.placed c.args.id.0 c.args.slot c.args.value.now c.in-Some.node.now (sym c.in-Some.ensures) c.set.new.self c.set.ensures.written c.set.ensures.meaning c.set.ensures.statics c.set.ensures.limit
    ∙ ap (λ (x : Held _). store (g.E.Engine.meaning x.engine) (components_of g.E.Engine x) c.args.id.0 c.args.slot c.args.value.now) c.self.view_is

pub returns-clause-changed : goal.returns-clause-changed
returns-clause-changed g c =
    let h : Held _ = record { engine = c.self.inside.engine; nodes = c.self.inside.nodes } in
    ap not (c.are_same.ensures ∙ ap (λ v. is_same_value v c.value-2.result.now) c.value.ensures ∙ ap (is_same_value c.get-2.new.out) c.value-2.ensures)
    ∙ change_is g.E.Engine h c.self.invariant.placed c.args.id.0 c.args.slot c.args.value.now c.in-Some.node.now (sym c.in-Some.ensures) c.set.new.self c.set.ensures.written c.set.ensures.meaning c.set.ensures.statics c.set.ensures.limit
    _ _ c.get-2.ensures c.get-3.ensures
    ∙ ap (λ (x : Held _). has_changed (g.E.Engine.meaning x.engine) (components_of g.E.Engine x) (store (g.E.Engine.meaning x.engine) (components_of g.E.Engine x) c.args.id.0 c.args.slot c.args.value.now) c.args.id.0 c.args.slot) c.self.view_is
