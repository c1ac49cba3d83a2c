use Rattle.std.proofs.Common.{Some, sym, ap, subst, ◌∙◌}
use Rattle.std.specs.Prelude.{slice_get}
use Rattle.std.specs.Option.{option_map}
use Rattle.comp_tree.specs.Held.{Held, by_id_of}
use Rattle.sed_typed.specs.Classes.{slots}
use Rattle.sed_typed.specs.declared.schema.SlotInfo.{SlotInfo}
use Rattle.comp_tree.specs.Held.{IsPropertyOf}
use Rattle.comp_tree.specs.Refusals.{first_refusal, refusals_of_read}
use Rattle.comp_tree.proofs.TreeLemmas.{refused_no_component, refused_no_slot, refused_action, allowed_property, property_is, component_there}
use Rattle.comp_tree.proofs.tree.Tree.property.Goals as goal

pub returns-in_default : goal.returns-in_default
returns-in_default g c =
    let i = c.self.inside in
    ap (λ (h : Held _). first_refusal (refusals_of_read (g.E.Engine.meaning h.engine) (by_id_of (g.E.Engine.live h.engine) h.nodes) c.args.id.0 c.args.slot)) (sym c.self.view_is)
    ∙ refused_no_component (g.E.Engine.meaning i.engine) (g.E.Engine.live i.engine) i.nodes c.args.id.0 c.args.slot (sym c.in_default.ensures)

pub returns-in-Some-Prop : goal.returns-in-Some-Prop
returns-in-Some-Prop g c =
    let i = c.self.inside in
    let m = g.E.Engine.meaning i.engine in
    let l = g.E.Engine.live i.engine in
    let n = c.in-Some.node.now in
    let t = c.in-Some-Prop.field-0-0 in
    let form = ap (λ s. option_map (λ (x : SlotInfo). x.form) (slice_get (slots s.classes n.kind.0) c.args.slot)) (sym c.schema.ensures.same) ∙ sym c.in-Some-Prop.ensures.is ∙ ap Some c.in-Some-Prop.field-0-is in
    subst (λ (h : Held _). IsPropertyOf g.E.Engine h c.args.id.0 c.args.slot n.place.0) c.self.view_is (record {
      allowed = allowed_property m l i.nodes c.args.id.0 n (sym c.in-Some.ensures) c.args.slot t form;
      property = property_is m l i.nodes c.self.invariant.placed c.args.id.0 n (sym c.in-Some.ensures) c.args.slot t form;
      component = component_there m l i.nodes c.self.invariant.placed c.args.id.0 n (sym c.in-Some.ensures);
    })

pub returns-in-Some-Action : goal.returns-in-Some-Action
returns-in-Some-Action g c =
    let i = c.self.inside in
    let n = c.in-Some.node.now in
    let form = ap (λ s. option_map (λ (x : SlotInfo). x.form) (slice_get (slots s.classes n.kind.0) c.args.slot)) (sym c.schema.ensures.same) ∙ sym c.in-Some-Action.ensures.is ∙ ap Some c.in-Some-Action.field-0-is in
    ap (λ (h : Held _). first_refusal (refusals_of_read (g.E.Engine.meaning h.engine) (by_id_of (g.E.Engine.live h.engine) h.nodes) c.args.id.0 c.args.slot)) (sym c.self.view_is)
    ∙ refused_action (g.E.Engine.meaning i.engine) (g.E.Engine.live i.engine) i.nodes c.args.id.0 n (sym c.in-Some.ensures) c.args.slot c.in-Some-Action.field-0-0 form

pub returns-in-None : goal.returns-in-None
returns-in-None g c =
    let i = c.self.inside in
    let n = c.in-Some.node.now in
    let form = ap (λ s. option_map (λ (x : SlotInfo). x.form) (slice_get (slots s.classes n.kind.0) c.args.slot)) (sym c.schema.ensures.same) ∙ sym c.in-None.ensures.is in
    ap (λ (h : Held _). first_refusal (refusals_of_read (g.E.Engine.meaning h.engine) (by_id_of (g.E.Engine.live h.engine) h.nodes) c.args.id.0 c.args.slot)) (sym c.self.view_is)
    ∙ refused_no_slot (g.E.Engine.meaning i.engine) (g.E.Engine.live i.engine) i.nodes c.args.id.0 n (sym c.in-Some.ensures) c.args.slot form
