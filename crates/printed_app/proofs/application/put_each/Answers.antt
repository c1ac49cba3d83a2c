use Rattle.std.proofs.Common.{rules}
use Rattle.std.proofs.lemmas.Option.{slice_get-get_or}
use Rattle.comp_tree.specs.Held.{components_of}
use Rattle.printed_app.proofs.Sequence.{all_put, one_fails, one_more}
use Rattle.printed_app.specs.Application.{component_text}
use Rattle.printed_app.proofs.application.put_each.Goals as goal

pub loop-id-preserved : goal.loop-id-preserved
loop-id-preserved g c =
    one_more (component_text (g.E.Engine.meaning c.args.tree.now.engine)
    (components_of g.E.Engine c.args.tree.now).by_id)
    c.args.ids.now c.loop-id.id-index _ (slice_get-get_or c.args.ids.now c.loop-id.id-index 0 c.loop-id-test.true)
    c.loop-id.invariant c.in_ok-put_component.ensures

pub returns-in_err-put_component : goal.returns-in_err-put_component
returns-in_err-put_component g c =
    one_fails (component_text (g.E.Engine.meaning c.args.tree.now.engine)
    (components_of g.E.Engine c.args.tree.now).by_id)
    c.args.ids.now c.loop-id.id-index _ (slice_get-get_or c.args.ids.now c.loop-id.id-index 0 c.loop-id-test.true)
    c.loop-id.invariant c.in_err-put_component.ensures c.from_residual.ensures.0

pub returns : goal.returns
returns g c =
    all_put (component_text (g.E.Engine.meaning c.args.tree.now.engine)
    (components_of g.E.Engine c.args.tree.now).by_id)
    c.args.ids.now c.loop-id.id-index (search rules) c.loop-id.invariant
