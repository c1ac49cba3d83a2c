use Rattle.std.proofs.Common.{◌≡◌, refl, sym, ap, subst, ◌∙◌}
use Rattle.std.specs.Prelude.{IsSomeAnd}
use Rattle.std.specs.FinMap as map
use Rattle.sed_engine.specs.Code.{new_object}
use Rattle.node_table.specs.Properties.{config_types}
use Rattle.node_table.specs.Values.{AreOfTypes}
use Rattle.comp_tree.specs.Held.{IsPlaced}
use Rattle.comp_tree.proofs.LoadLemmas.{one_by_id, one_placed}
use Rattle.comp_tree.proofs.MapLemmas.{get_put}
use Rattle.comp_tree.proofs.MarkCalls.{all_set}
use Rattle.comp_tree.proofs.loading.load_one.Goals as goal

pub store_values-requires-clause-live : goal.store_values-requires-clause-live
store_values-requires-clause-live g c =
    subst (λ r. IsSomeAnd r (λ o. o.class ≡ c.args.entry.now.kind.0)) (sym (ap (λ l. map.get l c.in-Ok.place.0) c.in-Ok.ensures.added ∙ get_put (g.E.Engine.live c.args.engine.now) c.in-Ok.place.0 (new_object (g.E.Engine.meaning c.args.engine.now) c.args.entry.now.kind.0))) refl

pub store_values-requires-clause-typed : goal.store_values-requires-clause-typed
store_values-requires-clause-typed g c =
    subst (λ m. AreOfTypes (config_types m c.args.entry.now.kind.0) c.as_slice.result.now) (sym c.in-Ok.ensures.meaning)
    (subst (AreOfTypes (config_types (g.E.Engine.meaning c.args.engine.now) c.args.entry.now.kind.0)) (sym c.as_slice.ensures) c.requires.entry.config)

pub returns-clause-placed : goal.returns-clause-placed
returns-clause-placed g c =
    let k = c.loaded_node-node.ensures in
    let put = one_placed (g.E.Engine.meaning c.args.engine.now) (g.E.Engine.meaning c.add.new.self) (g.E.Engine.live c.args.engine.now) (g.E.Engine.live c.add.new.self) (g.E.Engine.live c.store_values.new.engine) c.args.nodes.now c.insert.new.self
    c.requires.placed c.args.entry.now c.in-Ok.place c.loaded_node-node.result c.in-Ok.ensures.fresh c.in-Ok.ensures.added c.in-Ok.ensures.meaning c.as_slice.result.now c.as_slice.ensures c.store_values.ensures.stored c.requires.free c.insert.ensures
    k.kind k.name k.parent k.children k.fault k.place in
    subst (λ m. IsPlaced m (g.E.Engine.live c.store_values.new.engine) c.insert.new.self) (sym c.store_values.ensures.meaning) put

pub returns-clause-by_id : goal.returns-clause-by_id
returns-clause-by_id g c =
    let k = c.loaded_node-node.ensures in
    one_by_id (g.E.Engine.meaning c.args.engine.now) (g.E.Engine.meaning c.add.new.self) (g.E.Engine.live c.args.engine.now) (g.E.Engine.live c.add.new.self) (g.E.Engine.live c.store_values.new.engine) c.args.nodes.now c.insert.new.self
    c.requires.placed c.args.entry.now c.in-Ok.place c.loaded_node-node.result c.in-Ok.ensures.fresh c.in-Ok.ensures.added c.in-Ok.ensures.meaning c.as_slice.result.now c.as_slice.ensures c.store_values.ensures.stored c.requires.free c.insert.ensures
    k.kind k.name k.parent k.children k.fault k.place

pub returns-clause-marks : goal.returns-clause-marks
returns-clause-marks g c = λ before. all_set c.args.nodes.now c.insert.new.self c.args.entry.now.id.0 c.loaded_node-node.result before c.loaded_node-node.ensures.marks c.insert.ensures
