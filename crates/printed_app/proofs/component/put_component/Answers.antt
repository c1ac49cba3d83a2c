use Rattle.comp_tree.specs.Held.{components_of}
use Rattle.printed_app.proofs.Sequence.{stops, text_is, then_put}
use Rattle.printed_app.proofs.Entries.{text_of_entry}
use Rattle.printed_app.proofs.component.put_component.Goals as goal

pub returns-in_err-put_component_line : goal.returns-in_err-put_component_line
returns-in_err-put_component_line g c =
    text_is (text_of_entry (g.E.Engine.meaning c.args.tree.now.engine)
    (components_of g.E.Engine c.args.tree.now).by_id
    c.args.id.0 (g.E.Engine.live c.args.tree.now.engine) c.in-Some.entry c.in-Some.ensures.told)
    (stops _ c.in_err-put_component_line.ensures c.from_residual.ensures.0)

pub returns : goal.returns
returns g c =
    text_is (text_of_entry (g.E.Engine.meaning c.args.tree.now.engine)
    (components_of g.E.Engine c.args.tree.now).by_id
    c.args.id.0 (g.E.Engine.live c.args.tree.now.engine) c.in-Some.entry c.in-Some.ensures.told)
    (then_put c.in_ok-put_component_line.ensures c.put_properties.ensures)
