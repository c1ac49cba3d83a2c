use Rattle.std.proofs.Common.{◌≡◌, ◌<◌, ℕ, None, refl, sym, ap, subst, ◌∙◌}
use Rattle.std.specs.Prelude.{IsSomeAnd, IsTrue}
use Rattle.std.specs.FinMap as map
use Rattle.sed_engine.specs.Code.{is_creatable, new_object}
use Rattle.comp_tree.specs.Allowed.{HasRoom}
use Rattle.comp_tree.specs.Application.{with_components}
use Rattle.comp_tree.specs.Edits.{added}
use Rattle.comp_tree.specs.Held.{Held, IsHeld, by_id_of, components_of}
use Rattle.comp_tree.specs.Order.{least_free}
use Rattle.node_table.specs.Read.{refusal_of_values}
use Rattle.comp_tree.specs.Refusals.{config_types}
use Rattle.comp_tree.specs.Values.{taken}
use Rattle.comp_tree.proofs.AddLemmas.{few_children, free_pushed, grown_held, grown_is, grown_live, least_is, len_same, live_two}
use Rattle.comp_tree.proofs.EditLemmas.{live_same, some_of}
use Rattle.comp_tree.proofs.MapLemmas.{get_put}
use Rattle.comp_tree.proofs.TreeLemmas.{no_component}
use Rattle.comp_tree.specs.Application.{Components}
use Rattle.comp_tree.specs.Held.{Nodes}
use Rattle.comp_tree.specs.Marks.{KeepsMarks, added_at, marks_in}
use Rattle.comp_tree.proofs.MarkCalls.{keeps_added}
use Rattle.comp_tree.proofs.MarkSteps.{marks_put}
use Rattle.comp_tree.proofs.tree.Tree.grow.Goals as goal

pub add-requires-clause-creatable : goal.add-requires-clause-creatable
add-requires-clause-creatable g c = subst (λ (x : Held _). IsTrue (is_creatable (g.E.Engine.meaning x.engine) c.args.kind.0)) (sym c.self.view_is) c.requires.creatable

pub add-requires-clause-few : goal.add-requires-clause-few
add-requires-clause-few g c = subst (λ (k : ℕ). k < 4096) (sym c.self.invariant.placed.count) (subst (λ (k : ℕ). k < 4096) (len_same (g.E.Engine.live c.self.inside.engine) c.self.inside.nodes) (subst (λ (x : Held _). HasRoom (by_id_of (g.E.Engine.live x.engine) x.nodes) c.args.parent.0) (sym c.self.view_is) c.requires.room).few)

pub least_free-id-requires : goal.least_free-id-requires
least_free-id-requires g c = (subst (λ (k : ℕ). k < 4096) (len_same (g.E.Engine.live c.self.inside.engine) c.self.inside.nodes) (subst (λ (x : Held _). HasRoom (by_id_of (g.E.Engine.live x.engine) x.nodes) c.args.parent.0) (sym c.self.view_is) c.requires.room).few)

pub invariant_of-self : goal.invariant_of-self
invariant_of-self g c =
    subst (λ m. IsHeld m (g.E.Engine.live c.add.new.self) c.self.inside.nodes) (sym c.in-Err.ensures.meaning)
    (subst (λ l. IsHeld (g.E.Engine.meaning c.self.inside.engine) l c.self.inside.nodes) (sym c.in-Err.ensures.refused) c.self.invariant)

pub invariant_of-self-2 : goal.invariant_of-self-2
invariant_of-self-2 g c =
    let h : Held _ = record { engine = c.self.inside.engine; nodes = c.self.inside.nodes } in
    let above = some_of (map.get c.self.inside.nodes c.args.parent.0) (sym (live_same (g.E.Engine.live c.self.inside.engine) c.self.inside.nodes c.args.parent.0) ∙ ap (λ (x : Held _). map.contains_key (by_id_of (g.E.Engine.live x.engine) x.nodes) c.args.parent.0) c.self.view_is ∙ c.requires.live) in
    grown_held g.E.Engine h c.self.invariant c.args.parent c.least_free-id.result c.args.kind c.in-Ok.place c.args.name c.args.config.now c.store_config.new.engine c.push_child.new.nodes c.insert.new.self c.new_node.result
    c.in-Ok.ensures.fresh (live_two (g.E.Engine.meaning c.self.inside.engine) (g.E.Engine.meaning c.add.new.self) (g.E.Engine.live c.self.inside.engine) (g.E.Engine.live c.add.new.self) (g.E.Engine.live c.store_config.new.engine) c.in-Ok.place.0 c.args.kind.0 c.args.config.now c.in-Ok.ensures.added c.in-Ok.ensures.meaning c.store_config.ensures.stored)
    (c.store_config.ensures.meaning ∙ c.in-Ok.ensures.meaning) (c.store_config.ensures.statics ∙ c.in-Ok.ensures.statics) (c.store_config.ensures.limit ∙ c.in-Ok.ensures.limit)
    above.0 above.1 c.push_child.ensures c.insert.ensures c.least_free-id.ensures.free c.new_node.ensures.kind c.new_node.ensures.name c.new_node.ensures.parent c.new_node.ensures.children c.new_node.ensures.fault c.new_node.ensures.place
    (subst (λ (x : Held _). HasRoom (by_id_of (g.E.Engine.live x.engine) x.nodes) c.args.parent.0) (sym c.self.view_is) c.requires.room).deep

pub returns-clause-id : goal.returns-clause-id
returns-clause-id g c =
    least_is (g.E.Engine.live c.self.inside.engine) c.self.inside.nodes c.least_free-id.result.0 c.least_free-id.ensures.free c.least_free-id.ensures.least c.least_free-id.ensures.bound
    ∙ ap (λ (x : Held _). least_free (by_id_of (g.E.Engine.live x.engine) x.nodes)) c.self.view_is

pub returns-clause-live : goal.returns-clause-live
returns-clause-live g c =
    let h : Held _ = record { engine = c.self.inside.engine; nodes = c.self.inside.nodes } in
    let above = some_of (map.get c.self.inside.nodes c.args.parent.0) (sym (live_same (g.E.Engine.live c.self.inside.engine) c.self.inside.nodes c.args.parent.0) ∙ ap (λ (x : Held _). map.contains_key (by_id_of (g.E.Engine.live x.engine) x.nodes) c.args.parent.0) c.self.view_is ∙ c.requires.live) in
    grown_live g.E.Engine h c.self.invariant c.args.parent c.least_free-id.result c.args.kind c.in-Ok.place c.args.name c.args.config.now c.store_config.new.engine c.push_child.new.nodes c.insert.new.self c.new_node.result
    c.in-Ok.ensures.fresh (live_two (g.E.Engine.meaning c.self.inside.engine) (g.E.Engine.meaning c.add.new.self) (g.E.Engine.live c.self.inside.engine) (g.E.Engine.live c.add.new.self) (g.E.Engine.live c.store_config.new.engine) c.in-Ok.place.0 c.args.kind.0 c.args.config.now c.in-Ok.ensures.added c.in-Ok.ensures.meaning c.store_config.ensures.stored)
    (c.store_config.ensures.meaning ∙ c.in-Ok.ensures.meaning) (c.store_config.ensures.statics ∙ c.in-Ok.ensures.statics) (c.store_config.ensures.limit ∙ c.in-Ok.ensures.limit)
    above.0 above.1 c.push_child.ensures c.insert.ensures c.least_free-id.ensures.free c.new_node.ensures.kind c.new_node.ensures.name c.new_node.ensures.parent c.new_node.ensures.children c.new_node.ensures.fault c.new_node.ensures.place

pub returns-clause-done : goal.returns-clause-done
returns-clause-done g c =
    let h : Held _ = record { engine = c.self.inside.engine; nodes = c.self.inside.nodes } in
    let above = some_of (map.get c.self.inside.nodes c.args.parent.0) (sym (live_same (g.E.Engine.live c.self.inside.engine) c.self.inside.nodes c.args.parent.0) ∙ ap (λ (x : Held _). map.contains_key (by_id_of (g.E.Engine.live x.engine) x.nodes) c.args.parent.0) c.self.view_is ∙ c.requires.live) in
    grown_is g.E.Engine h c.self.invariant c.args.parent c.least_free-id.result c.args.kind c.in-Ok.place c.args.name c.args.config.now c.store_config.new.engine c.push_child.new.nodes c.insert.new.self c.new_node.result
    c.in-Ok.ensures.fresh (live_two (g.E.Engine.meaning c.self.inside.engine) (g.E.Engine.meaning c.add.new.self) (g.E.Engine.live c.self.inside.engine) (g.E.Engine.live c.add.new.self) (g.E.Engine.live c.store_config.new.engine) c.in-Ok.place.0 c.args.kind.0 c.args.config.now c.in-Ok.ensures.added c.in-Ok.ensures.meaning c.store_config.ensures.stored)
    (c.store_config.ensures.meaning ∙ c.in-Ok.ensures.meaning) (c.store_config.ensures.statics ∙ c.in-Ok.ensures.statics) (c.store_config.ensures.limit ∙ c.in-Ok.ensures.limit)
    above.0 above.1 c.push_child.ensures c.insert.ensures c.least_free-id.ensures.free c.new_node.ensures.kind c.new_node.ensures.name c.new_node.ensures.parent c.new_node.ensures.children c.new_node.ensures.fault c.new_node.ensures.place
    ∙ ap (λ (x : Held _). with_components (components_of g.E.Engine x) (added (g.E.Engine.meaning x.engine) (components_of g.E.Engine x).by_id c.least_free-id.result.0 c.args.parent.0 c.args.kind.0 c.args.name (taken (config_types (g.E.Engine.meaning x.engine) c.args.kind.0) c.args.config.now))) c.self.view_is

pub store_config-requires-clause-live : goal.store_config-requires-clause-live
store_config-requires-clause-live g c =
    subst (λ r. IsSomeAnd r (λ o. o.class ≡ c.args.kind.0)) (sym (ap (λ l. map.get l c.in-Ok.place.0) c.in-Ok.ensures.added ∙ get_put (g.E.Engine.live c.self.inside.engine) c.in-Ok.place.0 (new_object (g.E.Engine.meaning c.self.inside.engine) c.args.kind.0))) refl

pub store_config-requires-clause-good : goal.store_config-requires-clause-good
store_config-requires-clause-good g c =
    subst (λ m. refusal_of_values (config_types m c.args.kind.0) c.args.config.now ≡ None) (sym c.in-Ok.ensures.meaning)
    (subst (λ (x : Held _). refusal_of_values (config_types (g.E.Engine.meaning x.engine) c.args.kind.0) c.args.config.now ≡ None) (sym c.self.view_is) c.requires.good)

pub push_child-requires-clause-live : goal.push_child-requires-clause-live
push_child-requires-clause-live g c =
    sym (live_same (g.E.Engine.live c.self.inside.engine) c.self.inside.nodes c.args.parent.0) ∙ ap (λ (x : Held _). map.contains_key (by_id_of (g.E.Engine.live x.engine) x.nodes) c.args.parent.0) c.self.view_is ∙ c.requires.live

pub push_child-requires-clause-few : goal.push_child-requires-clause-few
push_child-requires-clause-few g c = few_children (g.E.Engine.live c.self.inside.engine) c.self.inside.nodes c.args.parent.0 (subst (λ (x : Held _). HasRoom (by_id_of (g.E.Engine.live x.engine) x.nodes) c.args.parent.0) (sym c.self.view_is) c.requires.room).children

pub insert-requires-clause-free : goal.insert-requires-clause-free
insert-requires-clause-free g c =
    let above = some_of (map.get c.self.inside.nodes c.args.parent.0) (sym (live_same (g.E.Engine.live c.self.inside.engine) c.self.inside.nodes c.args.parent.0) ∙ ap (λ (x : Held _). map.contains_key (by_id_of (g.E.Engine.live x.engine) x.nodes) c.args.parent.0) c.self.view_is ∙ c.requires.live) in
    free_pushed c.self.inside.nodes c.push_child.new.nodes c.args.parent.0 c.least_free-id.result.0 above.0 above.1 c.push_child.ensures c.least_free-id.ensures.free

pub returns-in-Err-clause-stays : goal.returns-in-Err-clause-stays
returns-in-Err-clause-stays g c =
    let by_id = ap (λ l. by_id_of l c.self.inside.nodes) c.in-Err.ensures.refused in
    (λ i. record { by_id = by_id i; statics = c.in-Err.ensures.statics i; limit = c.in-Err.ensures.limit i }) ∙ ap (λ (x : Held _). components_of g.E.Engine x) c.self.view_is

pub returns-clause-fresh : goal.returns-clause-fresh
returns-clause-fresh g c =
    ap (λ (x : Held _). map.get (by_id_of (g.E.Engine.live x.engine) x.nodes) c.least_free-id.result.0) (sym c.self.view_is)
    ∙ no_component (g.E.Engine.live c.self.inside.engine) c.self.inside.nodes c.least_free-id.result.0 c.least_free-id.ensures.free

pub returns-clause-marks : goal.returns-clause-marks
returns-clause-marks g c =
    let h : Held _ = record { engine = c.self.inside.engine; nodes = c.self.inside.nodes } in
    let above = some_of (map.get c.self.inside.nodes c.args.parent.0) (sym (live_same (g.E.Engine.live c.self.inside.engine) c.self.inside.nodes c.args.parent.0) ∙ ap (λ (x : Held _). map.contains_key (by_id_of (g.E.Engine.live x.engine) x.nodes) c.args.parent.0) c.self.view_is ∙ c.requires.live) in
    let is =
    grown_is g.E.Engine h c.self.invariant c.args.parent c.least_free-id.result c.args.kind c.in-Ok.place c.args.name c.args.config.now c.store_config.new.engine c.push_child.new.nodes c.insert.new.self c.new_node.result
    c.in-Ok.ensures.fresh (live_two (g.E.Engine.meaning c.self.inside.engine) (g.E.Engine.meaning c.add.new.self) (g.E.Engine.live c.self.inside.engine) (g.E.Engine.live c.add.new.self) (g.E.Engine.live c.store_config.new.engine) c.in-Ok.place.0 c.args.kind.0 c.args.config.now c.in-Ok.ensures.added c.in-Ok.ensures.meaning c.store_config.ensures.stored)
    (c.store_config.ensures.meaning ∙ c.in-Ok.ensures.meaning) (c.store_config.ensures.statics ∙ c.in-Ok.ensures.statics) (c.store_config.ensures.limit ∙ c.in-Ok.ensures.limit)
    above.0 above.1 c.push_child.ensures c.insert.ensures c.least_free-id.ensures.free c.new_node.ensures.kind c.new_node.ensures.name c.new_node.ensures.parent c.new_node.ensures.children c.new_node.ensures.fault c.new_node.ensures.place
    in
    subst (λ (x : Held _). KeepsMarks g.E.Engine (added_at c.args.parent.0 c.least_free-id.result.0) x (record { engine = c.store_config.new.engine; nodes = c.insert.new.self })) c.self.view_is
    (keeps_added g.E.Engine h (record { engine = c.store_config.new.engine; nodes = c.insert.new.self }) (c.store_config.ensures.meaning ∙ c.in-Ok.ensures.meaning) c.args.parent.0 c.least_free-id.result.0 _ above.0 c.new_node.result above.1
    c.push_child.new.nodes c.push_child.ensures c.insert.ensures c.new_node.ensures.marks (ap (λ (a : Components). a.by_id) is))

pub returns-clause-set : goal.returns-clause-set
returns-clause-set g c = λ at. ap (λ (n : Nodes). marks_in n c.least_free-id.result.0 at) c.insert.ensures ∙ marks_put c.push_child.new.nodes c.least_free-id.result.0 c.new_node.result at ∙ c.new_node.ensures.marks at
