use Rattle.std.proofs.Common.{◌≡◌, suc, ◌-◌, ap, arith}
use Rattle.sed_value.specs.declared.id.Id.{Id}
use Rattle.std.specs.Option.{option_map}
use Rattle.comp_tree.specs.Application.{parent_of}
use Rattle.comp_tree.specs.Held.{components_of}
use Rattle.printed_app.specs.Application.{step_text}
use Rattle.printed_app.proofs.Steps.{way_put, way_stops}
use Rattle.printed_app.proofs.path.+put_steps.Goals as goal

pub returns-in_err-put_steps : goal.returns-in_err-put_steps
returns-in_err-put_steps g t c =
    let more : c.args.steps ≡ suc (c.args.steps - 1) = grind (arith, c.if-steps-eq0.false) in
    way_stops {r = c.from_residual.result} (step_text (components_of g.E.Engine c.args.tree.now).by_id)
    (parent_of (components_of g.E.Engine c.args.tree.now).by_id) c.args.steps (c.args.steps - 1) _ _ c.in-Some.id.0
    more (ap (option_map (λ (i : Id). i.0)) c.in-Some.is) c.parent.ensures
    c.in_err-put_steps.ensures c.from_residual.ensures.0

pub returns : goal.returns
returns g t c =
    let more : c.args.steps ≡ suc (c.args.steps - 1) = grind (arith, c.if-steps-eq0.false) in
    way_put (step_text (components_of g.E.Engine c.args.tree.now).by_id)
    (parent_of (components_of g.E.Engine c.args.tree.now).by_id) c.args.steps (c.args.steps - 1) _ _ c.in-Some.id.0
    more (ap (option_map (λ (i : Id). i.0)) c.in-Some.is) c.parent.ensures
    c.in_ok-put_steps.ensures c.put_step.ensures
