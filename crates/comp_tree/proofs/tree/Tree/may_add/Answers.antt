use Rattle.std.proofs.Common.{◌≡◌, Some, is_some, sym, ap, subst, ◌∙◌}
use Rattle.sed_value.specs.declared.refusal.Refusal.TheVariants.{NoComponent}
use Rattle.comp_tree.specs.Allowed.{MayAdd}
use Rattle.comp_tree.specs.Held.{Held, components_of}
use Rattle.sed_engine.specs.Whole.{KeepsLimits}
use Rattle.comp_tree.specs.Refusals.{first_refusal, refusals_of_add}
use Rattle.comp_tree.proofs.AllowedLemmas.{add_bad_values, add_no_child, add_no_kind, add_no_parent, may_add}
use Rattle.comp_tree.proofs.EditLemmas.{live_same}
use Rattle.comp_tree.proofs.tree.Tree.may_add.Goals as goal

pub returns-in_default : goal.returns-in_default
returns-in_default g c =
    let i = c.self.inside in
    let h : Held _ = record { engine = i.engine; nodes = i.nodes } in
    subst (λ (x : Held _). first_refusal (refusals_of_add (g.E.Engine.meaning x.engine) (components_of g.E.Engine x) c.args.asked.parent.0 c.args.asked.kit c.args.asked.number c.args.asked.name.now c.args.asked.config.now) ≡ Some NoComponent) c.self.view_is
    (add_no_parent (g.E.Engine.meaning i.engine) (components_of g.E.Engine h) c.args.asked.parent.0 c.args.asked.kit c.args.asked.number c.args.asked.name.now c.args.asked.config.now (live_same (g.E.Engine.live i.engine) i.nodes c.args.asked.parent.0 ∙ ap is_some (sym c.in_default.ensures)))

pub returns-in-Err : goal.returns-in-Err
returns-in-Err g c =
    let i = c.self.inside in
    let h : Held _ = record { engine = i.engine; nodes = i.nodes } in
    subst (λ (x : Held _). first_refusal (refusals_of_add (g.E.Engine.meaning x.engine) (components_of g.E.Engine x) c.args.asked.parent.0 c.args.asked.kit c.args.asked.number c.args.asked.name.now c.args.asked.config.now) ≡ Some c.in-Err.refusal) c.self.view_is
    (add_no_kind (g.E.Engine.meaning i.engine) (components_of g.E.Engine h) c.args.asked.parent.0 c.args.asked.kit c.args.asked.number c.args.asked.name.now c.args.asked.config.now (live_same (g.E.Engine.live i.engine) i.nodes c.args.asked.parent.0 ∙ ap is_some (sym c.in-Some.ensures)) c.in-Err.refusal (c.in-Err.ensures (g.E.Engine.meaning i.engine) (sym c.schema.ensures.same)))

pub returns-in-Err-new_child : goal.returns-in-Err-new_child
returns-in-Err-new_child g c =
    let i = c.self.inside in
    let h : Held _ = record { engine = i.engine; nodes = i.nodes } in
    subst (λ (x : Held _). first_refusal (refusals_of_add (g.E.Engine.meaning x.engine) (components_of g.E.Engine x) c.args.asked.parent.0 c.args.asked.kit c.args.asked.number c.args.asked.name.now c.args.asked.config.now) ≡ Some c.in-Err-new_child.refusal) c.self.view_is
    (add_no_child (g.E.Engine.meaning i.engine) (components_of g.E.Engine h) c.args.asked.parent.0 c.args.asked.kit c.args.asked.number c.args.asked.name.now c.args.asked.config.now (live_same (g.E.Engine.live i.engine) i.nodes c.args.asked.parent.0 ∙ ap is_some (sym c.in-Some.ensures)) c.in-Ok.kind.0 (c.in-Ok.ensures (g.E.Engine.meaning i.engine) (sym c.schema.ensures.same)) c.in-Err-new_child.refusal (c.in-Err-new_child.ensures (g.E.Engine.live i.engine)))

pub config_refusal-requires : goal.config_refusal-requires
config_refusal-requires g c =
    subst KeepsLimits (sym c.schema-2.ensures.same) c.schema-2.ensures.whole.tables.limits

pub returns-in-Some-config_refusal : goal.returns-in-Some-config_refusal
returns-in-Some-config_refusal g c =
    let i = c.self.inside in
    let h : Held _ = record { engine = i.engine; nodes = i.nodes } in
    subst (λ (x : Held _). first_refusal (refusals_of_add (g.E.Engine.meaning x.engine) (components_of g.E.Engine x) c.args.asked.parent.0 c.args.asked.kit c.args.asked.number c.args.asked.name.now c.args.asked.config.now) ≡ Some c.in-Some-config_refusal.refusal) c.self.view_is
    (add_bad_values (g.E.Engine.meaning i.engine) (components_of g.E.Engine h) c.args.asked.parent.0 c.args.asked.kit c.args.asked.number c.args.asked.name.now c.args.asked.config.now (live_same (g.E.Engine.live i.engine) i.nodes c.args.asked.parent.0 ∙ ap is_some (sym c.in-Some.ensures)) c.in-Ok.kind.0 (c.in-Ok.ensures (g.E.Engine.meaning i.engine) (sym c.schema.ensures.same)) c.in-Ok-new_child.name (c.in-Ok-new_child.ensures (g.E.Engine.live i.engine)) c.in-Some-config_refusal.refusal
    (sym (c.in-Some-config_refusal.ensures (g.E.Engine.meaning i.engine) (sym c.schema-2.ensures.same))))

pub returns-in-None : goal.returns-in-None
returns-in-None g c =
    let i = c.self.inside in
    let h : Held _ = record { engine = i.engine; nodes = i.nodes } in
    subst (λ (x : Held _). MayAdd (g.E.Engine.meaning x.engine) (components_of g.E.Engine x) c.args.asked.parent.0 c.args.asked.kit c.args.asked.number c.args.asked.name.now c.args.asked.config.now c.in-Ok.kind.0 c.in-Ok-new_child.name) c.self.view_is
    (may_add (g.E.Engine.meaning i.engine) (components_of g.E.Engine h) c.args.asked.parent.0 c.args.asked.kit c.args.asked.number c.args.asked.name.now c.args.asked.config.now (live_same (g.E.Engine.live i.engine) i.nodes c.args.asked.parent.0 ∙ ap is_some (sym c.in-Some.ensures)) c.in-Ok.kind.0 (c.in-Ok.ensures (g.E.Engine.meaning i.engine) (sym c.schema.ensures.same)) c.in-Ok-new_child.name (c.in-Ok-new_child.ensures (g.E.Engine.live i.engine))
    (sym (c.in-None.ensures (g.E.Engine.meaning i.engine) (sym c.schema-2.ensures.same))))
