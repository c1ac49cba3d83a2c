use Rattle.std.proofs.Common.{◌≡◌, Some, sym, ap, subst, ◌∙◌}
use Rattle.std.specs.Prelude.{IfSome, IsSomeAnd, IsTrue, slice_get}
use Rattle.std.specs.FinMap as map
use Rattle.std.specs.Option.{option_map}
use Rattle.sed_typed.specs.Classes.{slots}
use Rattle.sed_typed.specs.declared.schema.SlotInfo.{SlotInfo}
use Rattle.sed_engine.specs.Code.{property_type, slot_type}
use Rattle.sed_engine.specs.Whole.{KeepsLimits}
use Rattle.sed_wire.specs.Spelling.{can_be_held}
use Rattle.comp_tree.specs.Held.{Held, by_id_of}
use Rattle.comp_tree.specs.Refusals.{first_refusal, refusals_of_read}
use Rattle.comp_tree.proofs.EditLemmas.{type_found}
use Rattle.comp_tree.proofs.TreeLemmas.{allowed_property, refused_action, refused_no_component, refused_no_slot}
use Rattle.comp_tree.proofs.tree.Tree.type_of_property.Goals as goal

pub returns-in_default-clause-refused : goal.returns-in_default-clause-refused
returns-in_default-clause-refused g c =
    let i = c.self.inside in
    ap (λ (h : Held _). first_refusal (refusals_of_read (g.E.Engine.meaning h.engine) (by_id_of (g.E.Engine.live h.engine) h.nodes) c.args.id.0 c.args.slot)) (sym c.self.view_is)
    ∙ refused_no_component (g.E.Engine.meaning i.engine) (g.E.Engine.live i.engine) i.nodes c.args.id.0 c.args.slot (sym c.in_default.ensures)

pub returns-in-Some-Prop-clause-found : goal.returns-in-Some-Prop-clause-found
returns-in-Some-Prop-clause-found g c =
    let i = c.self.inside in
    let n = c.in-Some.node.now in
    let form = ap (λ s. option_map (λ (x : SlotInfo). x.form) (slice_get (slots s.classes n.kind.0) c.args.slot)) (sym c.schema.ensures.same) ∙ sym c.in-Some-Prop.ensures.is ∙ ap Some c.in-Some-Prop.field-0-is in
    subst (λ (h : Held _). IsSomeAnd (map.get (by_id_of (g.E.Engine.live h.engine) h.nodes) c.args.id.0) (λ k. slot_type (g.E.Engine.meaning h.engine) k.class c.args.slot ≡ Some c.in-Some-Prop.kind)) c.self.view_is
    (type_found (g.E.Engine.meaning i.engine) (g.E.Engine.live i.engine) i.nodes c.args.id.0 n (sym c.in-Some.ensures) c.args.slot c.in-Some-Prop.kind form)

pub returns-in-Some-Prop-clause-held : goal.returns-in-Some-Prop-clause-held
returns-in-Some-Prop-clause-held g c =
    let limits : KeepsLimits c.schema.result.now = subst KeepsLimits (sym c.schema.ensures.same) c.schema.ensures.whole.tables.limits in
    subst (λ form. IfSome (property_type (Some form)) (λ t. IsTrue (can_be_held t))) c.in-Some-Prop.field-0-is (c.in-Some-Prop.ensures.held limits)

pub returns-in-Some-Prop-clause-refused : goal.returns-in-Some-Prop-clause-refused
returns-in-Some-Prop-clause-refused g c =
    let i = c.self.inside in
    let n = c.in-Some.node.now in
    let form = ap (λ s. option_map (λ (x : SlotInfo). x.form) (slice_get (slots s.classes n.kind.0) c.args.slot)) (sym c.schema.ensures.same) ∙ sym c.in-Some-Prop.ensures.is ∙ ap Some c.in-Some-Prop.field-0-is in
    ap (λ (h : Held _). first_refusal (refusals_of_read (g.E.Engine.meaning h.engine) (by_id_of (g.E.Engine.live h.engine) h.nodes) c.args.id.0 c.args.slot)) (sym c.self.view_is)
    ∙ allowed_property (g.E.Engine.meaning i.engine) (g.E.Engine.live i.engine) i.nodes c.args.id.0 n (sym c.in-Some.ensures) c.args.slot c.in-Some-Prop.kind form

pub returns-in-Some-Action-clause-refused : goal.returns-in-Some-Action-clause-refused
returns-in-Some-Action-clause-refused g c =
    let i = c.self.inside in
    let n = c.in-Some.node.now in
    let form = ap (λ s. option_map (λ (x : SlotInfo). x.form) (slice_get (slots s.classes n.kind.0) c.args.slot)) (sym c.schema.ensures.same) ∙ sym c.in-Some-Action.ensures.is ∙ ap Some c.in-Some-Action.field-0-is in
    ap (λ (h : Held _). first_refusal (refusals_of_read (g.E.Engine.meaning h.engine) (by_id_of (g.E.Engine.live h.engine) h.nodes) c.args.id.0 c.args.slot)) (sym c.self.view_is)
    ∙ refused_action (g.E.Engine.meaning i.engine) (g.E.Engine.live i.engine) i.nodes c.args.id.0 n (sym c.in-Some.ensures) c.args.slot c.in-Some-Action.field-0-0 form

pub returns-in-None-clause-refused : goal.returns-in-None-clause-refused
returns-in-None-clause-refused g c =
    let i = c.self.inside in
    let n = c.in-Some.node.now in
    let form = ap (λ s. option_map (λ (x : SlotInfo). x.form) (slice_get (slots s.classes n.kind.0) c.args.slot)) (sym c.schema.ensures.same) ∙ sym c.in-None.ensures.is in
    ap (λ (h : Held _). first_refusal (refusals_of_read (g.E.Engine.meaning h.engine) (by_id_of (g.E.Engine.live h.engine) h.nodes) c.args.id.0 c.args.slot)) (sym c.self.view_is)
    ∙ refused_no_slot (g.E.Engine.meaning i.engine) (g.E.Engine.live i.engine) i.nodes c.args.id.0 n (sym c.in-Some.ensures) c.args.slot form
