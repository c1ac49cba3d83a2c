use Rattle.std.proofs.Common.{Some, sym, ap, subst, ◌∙◌}
use Rattle.std.specs.Prelude.{IsSomeAnd, IsTrue, slice_get}
use Rattle.std.specs.FinMap as map
use Rattle.std.specs.Option.{option_map}
use Rattle.sed_typed.specs.Classes.{slots}
use Rattle.sed_typed.specs.declared.schema.SlotInfo.{SlotInfo}
use Rattle.sed_engine.specs.declared.call.Root.TheVariants.{Action as ActionRoot}
use Rattle.sed_engine.specs.Code.{may_call}
use Rattle.comp_tree.specs.Edits.{first_of}
use Rattle.comp_tree.specs.Held.{Held, by_id_of}
use Rattle.comp_tree.specs.Refusals.{first_refusal, invoke_types, refusals_of_invoke}
use Rattle.comp_tree.specs.Values.{taken}
use Rattle.comp_tree.proofs.EditLemmas.{invoke_allowed, invoke_bad, invoke_faulted, invoke_may, invoke_no_component, invoke_no_slot, invoke_property, invoke_takes}
use Rattle.comp_tree.proofs.tree.Tree.argument_for.Goals as goal

pub returns-in_default-clause-refused : goal.returns-in_default-clause-refused
returns-in_default-clause-refused g c =
    let i = c.self.inside in
    ap (λ (h : Held _). first_refusal (refusals_of_invoke (g.E.Engine.meaning h.engine) (by_id_of (g.E.Engine.live h.engine) h.nodes) c.args.id.0 c.args.slot c.args.bytes.now)) (sym c.self.view_is)
    ∙ invoke_no_component (g.E.Engine.meaning i.engine) (g.E.Engine.live i.engine) i.nodes c.args.id.0 c.args.slot c.args.bytes.now (sym c.in_default.ensures)

pub returns-in-Some-Prop-clause-refused : goal.returns-in-Some-Prop-clause-refused
returns-in-Some-Prop-clause-refused g c =
    let i = c.self.inside in
    let n = c.in-Some.node.now in
    let form = ap (λ s. option_map (λ (x : SlotInfo). x.form) (slice_get (slots s.classes n.kind.0) c.args.slot)) (sym c.schema.ensures.same) ∙ sym c.in-Some-Prop.ensures.is ∙ ap Some c.in-Some-Prop.field-0-is in
    ap (λ (h : Held _). first_refusal (refusals_of_invoke (g.E.Engine.meaning h.engine) (by_id_of (g.E.Engine.live h.engine) h.nodes) c.args.id.0 c.args.slot c.args.bytes.now)) (sym c.self.view_is)
    ∙ invoke_property (g.E.Engine.meaning i.engine) (g.E.Engine.live i.engine) i.nodes c.args.id.0 c.args.slot c.args.bytes.now n (sym c.in-Some.ensures) c.in-Some-Prop.field-0-0 form

pub returns-in-None-clause-refused : goal.returns-in-None-clause-refused
returns-in-None-clause-refused g c =
    let i = c.self.inside in
    let n = c.in-Some.node.now in
    let form = ap (λ s. option_map (λ (x : SlotInfo). x.form) (slice_get (slots s.classes n.kind.0) c.args.slot)) (sym c.schema.ensures.same) ∙ sym c.in-None.ensures.is in
    ap (λ (h : Held _). first_refusal (refusals_of_invoke (g.E.Engine.meaning h.engine) (by_id_of (g.E.Engine.live h.engine) h.nodes) c.args.id.0 c.args.slot c.args.bytes.now)) (sym c.self.view_is)
    ∙ invoke_no_slot (g.E.Engine.meaning i.engine) (g.E.Engine.live i.engine) i.nodes c.args.id.0 c.args.slot c.args.bytes.now n (sym c.in-Some.ensures) form

pub returns-in-Err-clause-refused : goal.returns-in-Err-clause-refused
returns-in-Err-clause-refused g c =
    let i = c.self.inside in
    let n = c.in-Some.node.now in
    let form = ap (λ s. option_map (λ (x : SlotInfo). x.form) (slice_get (slots s.classes n.kind.0) c.args.slot)) (sym c.schema.ensures.same) ∙ sym c.in-Some-Action.ensures.is ∙ ap Some c.in-Some-Action.field-0-is in
    ap (λ (h : Held _). first_refusal (refusals_of_invoke (g.E.Engine.meaning h.engine) (by_id_of (g.E.Engine.live h.engine) h.nodes) c.args.id.0 c.args.slot c.args.bytes.now)) (sym c.self.view_is)
    ∙ invoke_bad (g.E.Engine.meaning i.engine) (g.E.Engine.live i.engine) i.nodes c.args.id.0 c.args.slot c.args.bytes.now n (sym c.in-Some.ensures) c.in-Some-Action.arg form c.in-Err.refusal c.in-Err.ensures.same c.in-Err.ensures.bad

pub returns-then-node-ne0-clause-refused : goal.returns-then-node-ne0-clause-refused
returns-then-node-ne0-clause-refused g c =
    let i = c.self.inside in
    let n = c.in-Some.node.now in
    let form = ap (λ s. option_map (λ (x : SlotInfo). x.form) (slice_get (slots s.classes n.kind.0) c.args.slot)) (sym c.schema.ensures.same) ∙ sym c.in-Some-Action.ensures.is ∙ ap Some c.in-Some-Action.field-0-is in
    ap (λ (h : Held _). first_refusal (refusals_of_invoke (g.E.Engine.meaning h.engine) (by_id_of (g.E.Engine.live h.engine) h.nodes) c.args.id.0 c.args.slot c.args.bytes.now)) (sym c.self.view_is)
    ∙ invoke_faulted (g.E.Engine.meaning i.engine) (g.E.Engine.live i.engine) i.nodes c.args.id.0 c.args.slot c.args.bytes.now n (sym c.in-Some.ensures) c.in-Some-Action.arg form c.in-Ok.ensures.good c.if-node-ne0.true

pub returns-clause-refused : goal.returns-clause-refused
returns-clause-refused g c =
    let i = c.self.inside in
    let n = c.in-Some.node.now in
    let form = ap (λ s. option_map (λ (x : SlotInfo). x.form) (slice_get (slots s.classes n.kind.0) c.args.slot)) (sym c.schema.ensures.same) ∙ sym c.in-Some-Action.ensures.is ∙ ap Some c.in-Some-Action.field-0-is in
    ap (λ (h : Held _). first_refusal (refusals_of_invoke (g.E.Engine.meaning h.engine) (by_id_of (g.E.Engine.live h.engine) h.nodes) c.args.id.0 c.args.slot c.args.bytes.now)) (sym c.self.view_is)
    ∙ invoke_allowed (g.E.Engine.meaning i.engine) (g.E.Engine.live i.engine) i.nodes c.args.id.0 c.args.slot c.args.bytes.now n (sym c.in-Some.ensures) c.in-Some-Action.arg form c.in-Ok.ensures.good c.if-node-ne0.false

pub returns-clause-taken : goal.returns-clause-taken
returns-clause-taken g c =
    let i = c.self.inside in
    let n = c.in-Some.node.now in
    let form = ap (λ s. option_map (λ (x : SlotInfo). x.form) (slice_get (slots s.classes n.kind.0) c.args.slot)) (sym c.schema.ensures.same) ∙ sym c.in-Some-Action.ensures.is ∙ ap Some c.in-Some-Action.field-0-is in
    ap (λ (h : Held _). first_of (taken (invoke_types (g.E.Engine.meaning h.engine) (by_id_of (g.E.Engine.live h.engine) h.nodes) c.args.id.0 c.args.slot) c.args.bytes.now)) (sym c.self.view_is)
    ∙ ap first_of (invoke_takes (g.E.Engine.meaning i.engine) (g.E.Engine.live i.engine) i.nodes c.args.id.0 c.args.slot c.args.bytes.now n (sym c.in-Some.ensures) c.in-Some-Action.arg form) ∙ c.in-Ok.ensures.is

pub returns-clause-may : goal.returns-clause-may
returns-clause-may g c =
    let i = c.self.inside in
    let n = c.in-Some.node.now in
    let form = ap (λ s. option_map (λ (x : SlotInfo). x.form) (slice_get (slots s.classes n.kind.0) c.args.slot)) (sym c.schema.ensures.same) ∙ sym c.in-Some-Action.ensures.is ∙ ap Some c.in-Some-Action.field-0-is in
    subst (λ (h : Held _). IsSomeAnd (map.get (by_id_of (g.E.Engine.live h.engine) h.nodes) c.args.id.0) (λ k. IsTrue (may_call (g.E.Engine.meaning h.engine) k.class (ActionRoot (record { 0 = c.args.slot })) c.in-Ok.value))) c.self.view_is
    (invoke_may (g.E.Engine.meaning i.engine) (g.E.Engine.live i.engine) i.nodes c.args.id.0 c.args.slot c.args.bytes.now n (sym c.in-Some.ensures) c.in-Some-Action.arg form c.in-Ok.value c.in-Ok.ensures.allowed)
